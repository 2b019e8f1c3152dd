-- The class table's answer: what its tests say, and its ways out.
use mathlib.Core.Path.{◌≡◌, refl}
use mathlib.Core.Bool.{false, cond, ◌||◌}
use Prim.Native.Nat.{ℕ, ◌≤◌}
use native.Mathlib.Omega.{arith}
use borrow.Author.Tests.{ltb-false}
use lib.Dec.{ltb, eqb}
use Rattle.arithmetic.specs.Conditions.{outside}
use Rattle.refusal.proofs.RefusalLaws as tests
use Rattle.refusal.proofs.RefusalLaws.{FollowsFrom}
use Rattle.arithmetic.proofs.TestLaws.{neither, inside, not_outside, cond_le, le_cond}
use Rattle.risk_class.specs.ClassTable.{class_at, used_row, wrong_column, outside_table, class_tests, refused_class, accepted_class, intrinsic_class_of}
use Rattle.risk_class.specs.declared.class_table.Column.{Column}

pub record InTable (column row controlled : ℕ) : Type 0 where
  pub column_ge : 1 ≤ column
  pub column_le : column ≤ 5
  pub row_ge : 2 ≤ row
  pub row_le : row ≤ 7
  pub controlled_le : controlled ≤ 1

-- what is read from the table, where the test of refusal 9 failed
pub in_table : (column row controlled : ℕ) → outside_table column row controlled ≡ false → InTable column row controlled
in_table column row controlled e =
    let m = neither (wrong_column column || outside 2 7 row) (ltb 1 controlled) e in
    let o = neither (wrong_column column) (outside 2 7 row) m.0 in
    let c = inside 1 5 column o.0 in
    let r = inside 2 7 row o.1 in
    record { column_ge = c.0; column_le = c.1; row_ge = r.0; row_le = r.1; controlled_le = ltb-false 1 controlled m.1 }

-- a column of the table is in its range
pub column_in : {column : ℕ} (c : Column) → c.number ≡ column → wrong_column column ≡ false
column_in {column} c e = not_outside 1 5 column (omega (arith, e, c.in_table)) (omega (arith, e, c.in_table))

pub used_in : (row controlled : ℕ) → 2 ≤ row → row ≤ 7 → (1 ≤ used_row row controlled) × (used_row row controlled ≤ 7)
used_in row controlled h l =
    (le_cond (eqb controlled 1) {a = 1} {b = row} {k = 1} (omega arith) (omega arith), cond_le (eqb controlled 1) {a = 1} {b = row} {k = 7} (omega arith) l)

-- each way out of the tests, by its number: the refused class, and at 0 the table's entry
pub way_out : (column row controlled n : ℕ) → FollowsFrom (class_tests column row controlled) n
    (cond (eqb n 0) (accepted_class (class_at (used_row row controlled) column)) (refused_class n) ≡ intrinsic_class_of column row controlled)
unfolding intrinsic_class_of
way_out column row controlled = tests.way_out _ _ (class_tests column row controlled) refl
