-- `total_taken` gives the total that line 6 is taken of.
use native.Mathlib.Omega.{arith}
use Rattle.sheet.specs.Lines.{full_width}
use Rattle.sheet.proofs.LineBounds.{glide_total_max}
use Rattle.sheet.proofs.Formula.total_taken.Goals as goal

pub returns-then-eq-clause-at_most : goal.returns-then-eq-clause-at_most
returns-then-eq-clause-at_most c = rw c.total.ensures (glide_total_max (full_width c.args.dimension) (omega arith))
