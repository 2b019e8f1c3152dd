-- The column and the flag as the code finds them, from the first limit on.
use mathlib.Core.Path.{◌≡◌, refl, sym, ◌∙◌}
use mathlib.Core.Bool.{cond}
use mathlib.Core.Logic.{⊎_elim}
use Prim.Native.Nat.{ℕ, zero, suc, ◌+◌, ◌-◌, ◌≤◌, ◌<◌}
use native.Mathlib.Numerals.{add-one}
use native.Mathlib.Omega.{arith}
use borrow.Author.Tests.{le-leb, lt-leb, le-ltb, lt-ltb}
use lib.Dec.{leb, ltb}
use lib.ListN.{drop}
use mir.Val.{bool_byte}
use Rattle.std.proofs.Common.{None, Some}
use Rattle.arithmetic.proofs.TestLaws.{lt_or_le}
use Rattle.columns.specs.Column.{column_count, limits, limit_at, first_from, column_by, column_of, flag_of, column_and_flag, column_and_flag_of, column_found}
use Rattle.columns.specs.declared.Bracket.{Bracket}
use Rattle.columns.proofs.FirstInTable.{first_step}
use Rattle.columns.proofs.ColumnLaws.{above_0}

-- the column by the limits from k on
unfoldable pub column_from : ℕ → ℕ → ℕ
column_from high k = first_from (leb high) (suc k) (drop k limits)

-- the limit before column k + 1, and one; 0 before the first
unfoldable pub flagged_to : ℕ → ℕ
flagged_to zero = 0
flagged_to (suc k) = limit_at k + 1

at_most : (low n : ℕ) → bool_byte (ltb low (n + 1)) ≡ cond (leb low n) 1 0
at_most low n =
    ⊎_elim
    (λ (above : n < low). simp (le-ltb low (n + 1) (omega arith), lt-leb low n above))
    (λ (within : low ≤ n). simp (lt-ltb low (n + 1) (omega arith), le-leb low n within))
    (lt_or_le n low)

flag_is : (low k : ℕ) → bool_byte (ltb low (flagged_to k)) ≡ flag_of low (suc k)
unfolding flagged_to flag_of
flag_is low zero = simp (le-ltb low 0 (omega arith))
flag_is low (suc k) =
    let index : suc (suc k) - 2 ≡ k = omega arith in simp (lt-ltb 1 (suc (suc k)) (omega arith), index) (at_most low (limit_at k))

module _ (area : Bracket) where
  pub by_all_limits : column_from area.high 0 ≡ column_of area.high
  unfolding column_from column_of column_by
  by_all_limits = refl

  module _ (k : ℕ) (inside : k < column_count) where
    step : column_from area.high k ≡ cond (leb area.high (limit_at k)) (suc k) (column_from area.high (suc k))
    unfolding column_from
    step = first_step 0 (leb area.high) limits (suc k) k inside

    -- where the columns from k on are left, its limit is too small, or is the first that is at least the high area
    module _ (left : column_from area.high k ≡ column_of area.high) where
      pub limit_passed : limit_at k < area.high → (column_from area.high (k + 1) ≡ column_of area.high) × (limit_at k + 1 ≡ flagged_to (k + 1))
      unfolding flagged_to
      limit_passed h = rw (add-one k) (sym (rw (lt-leb area.high (limit_at k) h) at step) ∙ left, refl)

      pub limit_met : {flagged : ℕ} → flagged ≡ flagged_to k → area.high ≤ limit_at k → Some (column_and_flag (k + 1) (bool_byte (ltb area.low flagged))) ≡ column_found (column_and_flag_of area)
      limit_met f h =
          let column : column_of area.high ≡ suc k = sym left ∙ rw (le-leb area.high (limit_at k) h) at step in
          simp (column, f, flag_is area.low k, add-one k, above_0 {n = suc k} (omega arith)) refl

  pub no_limit : column_from area.high column_count ≡ column_of area.high → None ≡ column_found (column_and_flag_of area)
  unfolding column_from
  no_limit e = simp (sym e) refl
