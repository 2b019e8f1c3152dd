-- `saving` gives line 3 with one division.
use native.Mathlib.Nat.{div-le_self}
use native.Mathlib.Omega.{arith}
use Rattle.arithmetic.proofs.RoundingLaws.{up_next}
use Rattle.sheet.specs.Lines.{saving_times_mass, saving_of}
use Rattle.sheet.proofs.lines.saving.Goals as goal

pub overflow_add-result : goal.overflow_add-result
overflow_add-result c = omega (arith, div-le_self saving_times_mass.low c.args.mass)

pub returns : goal.returns
unfolding saving_of
returns c = rw (up_next saving_times_mass.low c.args.mass (omega arith))
