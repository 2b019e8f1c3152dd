use lib.Ieee.{lt}
use Rattle.arithmetic.specs.Fraction.{◌over◌}
use Rattle.fall.specs.Numbers.{decimal, whole}
use Rattle.fall.proofs.Literals.{zero_is, billion_is, thousandth_is}
use Rattle.fall.proofs.LaneLaws.{three_tests_hold}
use Rattle.fall.proofs.lanes.in_range.Goals as goal

-- `in_range` makes the definition's comparisons in each lane.

pub returns : goal.returns
returns c =
    let sum = c.args.sum in
    let first = c.args.first in
    simp (zero_is, billion_is, thousandth_is)
    (three_tests_hold (lt (whole 0) sum.0) (lt sum.0 (whole 1000000000)) (lt (decimal (1 over 1000)) first.0) (lt (whole 0) sum.1) (lt sum.1 (whole 1000000000)) (lt (decimal (1 over 1000)) first.1))
