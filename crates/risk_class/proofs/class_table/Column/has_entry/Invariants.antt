-- `Column::has_entry` meets its contract. The loop's invariant: the test of the rows passed.
use mathlib.Core.Path.{◌≡◌}
use Prim.Native.Nat.{◌+◌}
use lib.Dec.{eqb}
use Rattle.arithmetic.specs.Conditions.{any_below}
use Rattle.risk_class.specs.ClassTable.{class_at}
use Rattle.risk_class.proofs.class_table.Column.has_entry.Given as goal

abbrev pub invariant-loop-row : goal.invariant-loop-row
invariant-loop-row l = l.found ≡ any_below (λ i. eqb (class_at (i + 1) l.self.number) l.class) l.row-index
