use Rattle.fall.proofs.Literals.{half_is, time_step_is}
use Rattle.fall.proofs.fallen_to.Goals as goal

-- `fallen_to` makes the definition's operations in its order.

pub returns : goal.returns
returns c = simp (half_is, time_step_is)
