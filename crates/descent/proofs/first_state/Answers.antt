use Rattle.fall.specs.Numbers.{divided_by}
use Rattle.fall.proofs.Literals.{zero_is, hundred_is}
use Rattle.descent.proofs.first_state.Goals as goal

-- `first_state` gives the cruise speed in m/s, 0 and 0.

pub returns : goal.returns
unfolding divided_by
returns c = simp (zero_is, hundred_is)
