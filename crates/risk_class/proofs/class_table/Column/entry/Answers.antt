use borrow.Author.Tests.{eq-eqb, ne_eqb}
use Rattle.risk_class.specs.ClassTable.{class_at}
use Rattle.risk_class.proofs.class_table.Column.entry.Goals as goal

-- `Column::entry` meets its contract.

pub returns-then-class-eq-NO_CLASS : goal.returns-then-class-eq-NO_CLASS
unfolding class_at
returns-then-class-eq-NO_CLASS c = simp (eq-eqb _ _ c.if-class-eq-NO_CLASS.true)

pub returns-else-class-eq-NO_CLASS : goal.returns-else-class-eq-NO_CLASS
unfolding class_at
returns-else-class-eq-NO_CLASS c = simp (ne_eqb _ _ c.if-class-eq-NO_CLASS.false)
