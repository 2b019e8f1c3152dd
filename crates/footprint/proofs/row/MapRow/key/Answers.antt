use native.Mathlib.Nat.{one-mul, zero-mul}
use Rattle.footprint.proofs.CellLaws.{bit_clear}
use Rattle.footprint.proofs.row.MapRow.key.Goals as goal

-- `MapRow::key` meets its contract.

pub returns-then-self-column-eq1 : goal.returns-then-self-column-eq1
returns-then-self-column-eq1 c = simp (c.if-self-column-eq1.true, one-mul)

pub returns-else-self-column-eq1 : goal.returns-else-self-column-eq1
returns-else-self-column-eq1 c = simp (bit_clear _ c.if-self-column-eq1.false, zero-mul)
