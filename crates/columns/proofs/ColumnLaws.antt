-- The column by a test of the limits, and its range; the flag's.
use mathlib.Core.Path.{◌≡◌, refl, sym, ◌∙◌}
use mathlib.Core.Bool.{Bool, true, false}
use mathlib.Core.Logic.{⊎_elim}
use Prim.Native.Nat.{ℕ, suc, ◌-◌, ◌≤◌, ◌<◌}
use native.Mathlib.Omega.{arith}
use lib.Dec.{eqb, leb, ltb, lit<, lit≤}
use borrow.Author.Tests.{le-leb, lt-leb, ne_eqb}
use Rattle.std.proofs.Common.{None, Some}
use Rattle.std.proofs.lemmas.Option.{none-some, cond_some}
use Rattle.arithmetic.proofs.TestLaws.{cond_le, lt_or_le}
use Rattle.columns.specs.Column.{column_count, limits, limit_at, last_limit, column_by, column_of, flag_of, column_and_flag_of, column_found}
use Rattle.columns.specs.declared.Bracket.{Bracket}
use Rattle.columns.specs.declared.ColumnAndFlag.{ColumnAndFlag}
use Rattle.columns.proofs.FirstInTable.{FirstAt, first_max, first_is, first_none, first_exists}
use Rattle.columns.proofs.LimitLaws.{limit_mono}

-- the first limit that passes is that of column k + 1
abbrev pub FirstLimit : (ℕ → Bool) → ℕ → Type 0
FirstLimit under k = FirstAt 0 under limits k

pub column_at : (under : ℕ → Bool) (k : ℕ) → FirstLimit under k → column_by under ≡ suc k
unfolding column_by
column_at under k f = first_is 0 under limits 1 k f ∙ omega arith

-- up to the last limit there is a first limit that is at least the high area
pub limit_found : (high : ℕ) → high ≤ last_limit → (k : ℕ) × FirstLimit (leb high) k
limit_found high h = first_exists 0 (leb high) limits 4 (lit< tt) (le-leb high last_limit h)

-- and the column is one of the table's
pub column_in_table : (under : ℕ → Bool) → under last_limit ≡ true → (1 ≤ column_by under) × (column_by under ≤ column_count)
column_in_table under t =
    let r : (k : ℕ) × FirstLimit under k = first_exists 0 under limits 4 (lit< tt) t
    in omega (arith, column_at under r.0 r.1, r.1.inside)

-- above it there is none
pub no_column : (high : ℕ) → last_limit < high → column_of high ≡ 0
unfolding column_of column_by
no_column high h =
    first_none 0 (leb high) limits 1 (λ i l. lt-leb high (limit_at i) (omega (arith, limit_mono i 4 (omega arith) (lit< tt))))

pub column_max : (high : ℕ) → column_of high ≤ column_count
unfolding column_of column_by
column_max high = first_max (leb high) limits 0

pub flag_at_most_one : (low column : ℕ) → flag_of low column ≤ 1
unfolding flag_of
flag_at_most_one low column =
    cond_le (ltb 1 column) (cond_le (leb low (limit_at (column - 2))) (lit≤ tt) (lit≤ tt)) (lit≤ tt)

-- ---- what the code gives for them

pub above_0 : {n : ℕ} → 1 ≤ n → eqb n 0 ≡ false
above_0 h = ne_eqb _ _ (λ z. omega arith)

module _ (area : Bracket) where
  pub found_within : area.high ≤ last_limit → column_found (column_and_flag_of area) ≡ Some (column_and_flag_of area)
  unfolding column_of
  found_within h = simp (above_0 (column_in_table (leb area.high) (le-leb area.high last_limit h)).0) refl

  none_above : last_limit < area.high → column_found (column_and_flag_of area) ≡ None
  none_above h = simp (no_column area.high h) refl

  -- a column is found exactly up to the last limit
  pub found : {c : ColumnAndFlag} → column_found (column_and_flag_of area) ≡ Some c → (c ≡ column_and_flag_of area) × (area.high ≤ last_limit)
  found {c} e =
      ⊎_elim
      (λ (above : last_limit < area.high). absurd (none-some c (sym (none_above above) ∙ e)))
      (λ (within : area.high ≤ last_limit). ((cond_some true c (column_and_flag_of area) (sym e ∙ found_within within)).1, within))
      (lt_or_le last_limit area.high)

  pub not_found : column_found (column_and_flag_of area) ≡ None → last_limit < area.high
  not_found e =
      ⊎_elim
      (λ (above : last_limit < area.high). above)
      (λ (within : area.high ≤ last_limit). absurd (none-some _ (sym e ∙ found_within within)))
      (lt_or_le last_limit area.high)
