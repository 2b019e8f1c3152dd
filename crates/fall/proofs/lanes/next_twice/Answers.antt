use Rattle.fall.proofs.Literals.{half_is}
use Rattle.fall.proofs.TwiceGuess.{round_in_lanes}
use Rattle.fall.proofs.lanes.next_twice.Goals as goal

-- `next_twice` makes one round in each lane.

pub returns : goal.returns
returns c = round_in_lanes half_is c.args.sum c.args.guess c.fits-sum.0 c.fits-guess.0
