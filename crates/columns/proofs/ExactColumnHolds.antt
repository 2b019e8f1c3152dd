-- What the column and the flag of a bracket say of the exact column.
use mathlib.Core.Path.{◌≡◌, refl, sym, ◌∙◌, subst}
use mathlib.Core.Bool.{Bool, true, false, cond}
use mathlib.Core.Logic.{◌⊎◌, inl, inr, ⊎_elim}
use Prim.Native.Nat.{ℕ, zero, suc, ◌+◌, ◌-◌, ◌≤◌, ◌<◌}
use native.Mathlib.Nat.{eq-or-lt_of_le}
use native.Mathlib.Numerals.{add-one}
use native.Mathlib.Omega.{arith}
use lib.Dec.{leb}
use borrow.Author.Tests.{leb-true, leb-false, lt-ltb}
use Rattle.columns.specs.Column.{limit_at, last_limit, column_by, column_of, flag_of}
use Rattle.columns.specs.ExactColumn.{LiesIn, MeetsAtMostOneLimit, ColumnAgrees, ExactColumnLaw}
use Rattle.columns.specs.declared.Bracket.{Bracket}
use Rattle.columns.proofs.ColumnLaws.{FirstLimit, column_at, limit_found, column_in_table, flag_at_most_one}

-- no flag past the first column: the low area is above the limit before it
flag_clear : (low i : ℕ) → flag_of low (suc (suc i)) ≡ 0 → limit_at i < low
unfolding flag_of
flag_clear low i e = by_test (leb low (limit_at i)) refl (rw (lt-ltb 1 (suc (suc i)) (omega arith), index) at e)
  where
    index : suc (suc i) - 2 ≡ i
    index = omega arith

    by_test : (b : Bool) → leb low (limit_at i) ≡ b → ◌≡◌ {A = ℕ} (cond (leb low (limit_at i)) 1 0) 0 → limit_at i < low
    by_test true eb e = absurd (omega (arith, rw eb at e))
    by_test false eb e = leb-false _ _ eb

module _ (area : Bracket) (under : ℕ → Bool) (in_bracket : LiesIn area under) where
  not_under : (limit : ℕ) → limit < area.low → under limit ≡ false
  not_under limit h = by_test (under limit) refl
    where
      by_test : (b : Bool) → under limit ≡ b → under limit ≡ false
      by_test true e = absurd (omega (arith, in_bracket.low_at_most limit e))
      by_test false e = e

  -- the first limit that is at least the high area is that of column k + 1
  module _ (at_most_one : MeetsAtMostOneLimit area) (k : ℕ) (first : FirstLimit (leb area.high) k) where
    -- two limits back, the exact area is above
    two_back : (i : ℕ) → suc i < k → under (limit_at i) ≡ false
    two_back i h =
        let below : limit_at (i + 1) < area.high = rw (add-one i) (leb-false area.high (limit_at (suc i)) (first.before (suc i) h)) in
        not_under (limit_at i) (omega (arith, at_most_one i (omega (arith, first.inside)) below))

    -- not under the limit before the column: the columns agree
    same_column : ((i : ℕ) → suc i ≡ k → under (limit_at i) ≡ false) → column_by under ≡ suc k
    same_column last =
        column_at under k
        record {
          inside = first.inside;
          here = in_bracket.high_at_least (limit_at k) (leb-true _ _ first.here);
          before = λ i h. ⊎_elim (λ (e : suc i ≡ k). last i e) (λ (l : suc i < k). two_back i l) (eq-or-lt_of_le h);
        }

    -- under it: the exact column is one less
    one_less : (j : ℕ) → suc j ≡ k → under (limit_at j) ≡ true → column_by under ≡ suc j
    one_less j e t =
        column_at under j record { inside = omega (arith, first.inside); here = t; before = λ i h. two_back i (omega arith) }

    unflagged_at : flag_of area.low (suc k) ≡ 0 → column_by under ≡ suc k
    unflagged_at e = same_column (λ i h. not_under (limit_at i) (clear i (sym h) e))
      where
        clear : (i : ℕ) → k ≡ suc i → flag_of area.low (suc k) ≡ 0 → limit_at i < area.low
        clear i h e = flag_clear area.low i (subst (λ (n : ℕ). flag_of area.low (suc n) ≡ 0) h e)

    same_or_one_less : (column_by under ≡ suc k) ⊎ (column_by under + 1 ≡ suc k)
    same_or_one_less = at_index k refl
      where
        at_index : (n : ℕ) → n ≡ k → (column_by under ≡ suc k) ⊎ (column_by under + 1 ≡ suc k)
        at_index zero h = inl (same_column (λ i q. absurd (omega arith)))
        at_index (suc j) h = by_test (under (limit_at j)) refl
          where
            by_test : (b : Bool) → under (limit_at j) ≡ b → (column_by under ≡ suc k) ⊎ (column_by under + 1 ≡ suc k)
            by_test true t = inr (omega (arith, one_less j h t))
            by_test false t = inl (same_column (λ i q. let same : i ≡ j = omega arith in rw same t))

pub exact_column_lem : ExactColumnLaw
unfolding column_of
exact_column_lem area under in_bracket at_most_one top =
    let found = limit_found area.high top in
    let column = column_at (leb area.high) found.0 found.1 in
    record {
      exact_in_table = column_in_table under (in_bracket.high_at_least last_limit top);
      flag_zero_or_one = flag_at_most_one area.low (column_by (leb area.high));
      unflagged = λ e. unflagged_at area under in_bracket at_most_one found.0 found.1 (rw column at e) ∙ sym column;
      flagged = λ _. rw column (same_or_one_less area under in_bracket at_most_one found.0 found.1);
    }

-- flagged or not, the exact column isn't above the other
pub exact_not_above : {exact column flag : ℕ} → ColumnAgrees exact column flag → exact ≤ column
exact_not_above {exact} {column} {flag} h = by_flag flag refl
  where
    by_flag : (n : ℕ) → flag ≡ n → exact ≤ column
    by_flag zero e = omega (arith, h.unflagged e)
    by_flag (suc n) e = ⊎_elim (λ (q : exact ≡ column). omega arith) (λ (q : exact + 1 ≡ column). omega arith) (h.flagged (omega (arith, h.flag_zero_or_one)))
