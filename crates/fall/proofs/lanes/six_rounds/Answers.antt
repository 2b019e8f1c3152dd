use mathlib.Core.Path.{ap}
use mathlib.Core.List.{List}
use lib.Ieee.{Float, nan}
use lib.ListN.{get_or}
use Rattle.fall.proofs.Literals.{half_is}
use Rattle.fall.proofs.TwiceGuess.{six_rounds_in_lanes}
use Rattle.fall.proofs.lanes.six_rounds.Goals as goal

-- `six_rounds` makes six rounds of each sum.

pub returns : goal.returns
returns c =
    let made = six_rounds_in_lanes half_is c.requires.0 c.requires.1 c.next_twice-two.ensures c.next_twice-three.ensures c.next_twice-four.ensures c.next_twice-five.ensures c.next_twice.ensures in
    (ap (λ (l : List Float). get_or l 0 nan) made, ap (λ (l : List Float). get_or l 1 nan) made)
