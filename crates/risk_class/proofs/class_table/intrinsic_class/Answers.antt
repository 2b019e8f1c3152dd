use mathlib.Core.Path.{◌≡◌, refl, ap, ap₂, ◌∙◌}
use mathlib.Core.Bool.{Bool, true, false, cond, ◌||◌}
use Prim.Native.Nat.{ℕ}
use lib.Dec.{ltb, eqb}
use Rattle.std.proofs.Common.{Option, Some, None}
use Rattle.std.specs.Option.{ok_or}
use Rattle.arithmetic.specs.Conditions.{outside}
use Rattle.refusal.proofs.NumberLaws.{passed_on}
use Rattle.refusal.specs.Numbers.{number_of}
use Rattle.refusal.specs.declared.Refusal.{Refusal}
use Rattle.refusal.specs.declared.Refusal.TheVariants.{NoClass}
use Rattle.risk_class.specs.ClassTable.{no_class, class_at, used_row, wrong_column, outside_table, refused_class, accepted_class, intrinsic_class_of, intrinsic_answer}
use Rattle.risk_class.specs.PrivateOptions.{unless}
use Rattle.risk_class.proofs.ClassLaws.{column_in, way_out}
use Rattle.risk_class.proofs.class_table.intrinsic_class.Goals as goal

-- `risk_class::class_table::intrinsic_class` meets its contract: a way out of the tests for each return.

module _ (column row controlled : ℕ) where
  -- the test of refusal 9, once the column is judged
  outside_is : {t : Bool} → wrong_column column ≡ t → outside_table column row controlled ≡ (t || outside 2 7 row || ltb 1 controlled)
  outside_is e = ap (λ (t : Bool). t || outside 2 7 row || ltb 1 controlled) e

  -- the entry, or refusal 10
  entry_is : outside_table column row controlled ≡ false
      → intrinsic_answer (ok_or (unless no_class (class_at (used_row row controlled) column)) NoClass) ≡ intrinsic_class_of column row controlled
  entry_is h = by_test (eqb class no_class) refl
    where
      class : ℕ
      class = class_at (used_row row controlled) column

      by_test : (t : Bool) → eqb class no_class ≡ t → intrinsic_answer (ok_or (cond t None (Some class)) NoClass) ≡ intrinsic_class_of column row controlled
      by_test true e = way_out column row controlled 10 h e
      by_test false e = way_out column row controlled 0 h e

pub returns-in_err-column : goal.returns-in_err-column
returns-in_err-column c =
    let wrong = c.in_err-column.ensures in
    passed_on accepted_class refused_class _ _ c.from_residual.ensures.1
    ∙ ap (λ (r : Refusal). refused_class (number_of r)) wrong.0
    ∙ way_out _ _ _ 9 (outside_is c.args.column c.args.row c.args.controlled wrong.1)

pub returns-then-row-controlled : goal.returns-then-row-controlled
returns-then-row-controlled c =
    way_out _ _ _ 9 (outside_is c.args.column c.args.row c.args.controlled (column_in c.in_ok-column.column c.in_ok-column.ensures) ∙ c.if-row-controlled.true)

pub returns : goal.returns
returns c =
    let inside = outside_is c.args.column c.args.row c.args.controlled (column_in c.in_ok-column.column c.in_ok-column.ensures) ∙ c.if-row-controlled.false in
    let class = ap₂ class_at c.used_row.ensures c.in_ok-column.ensures in
    ap intrinsic_answer (c.ok_or.ensures.value ∙ ap (λ (o : Option ℕ). ok_or o NoClass) (c.entry.ensures ∙ ap (unless no_class) class))
    ∙ entry_is c.args.column c.args.row c.args.controlled inside
