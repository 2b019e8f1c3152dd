use lib.Dec.{le→leb}
use lib.Ieee.{in_float}
use native.Mathlib.Omega.{arith}
use Rattle.frontal_area.proofs.PromisesHold.{frontal_area_promise}
use Rattle.fall.specs.Numbers.{divided_by}
use Rattle.fall.specs.Step.{drag_factor_of}
use Rattle.fall.proofs.Literals.{thousand_is, million_is, half_is, air_density_is, drag_coefficient_is}
use Rattle.descent.proofs.body.Goals as goal

-- `body` gives the drag factor of the frontal area, and the mass.

pub int_to_float-area : goal.int_to_float-area
unfolding in_float
int_to_float-area c =
    le→leb c.frontal_area.result _ (omega (arith, c.frontal_area.ensures, frontal_area_promise.most c.args.dimension))

pub returns : goal.returns
unfolding divided_by drag_factor_of
returns c = simp (thousand_is, million_is, half_is, air_density_is, drag_coefficient_is) (cc)
