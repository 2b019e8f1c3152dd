use Rattle.fall.proofs.Literals.{zero_is}
use Rattle.descent.proofs.Course.in_flight.Goals as goal

-- `in_flight` tests both speeds and the ground.

pub returns : goal.returns
returns c = simp zero_is
