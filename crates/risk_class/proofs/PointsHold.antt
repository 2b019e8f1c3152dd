-- The cases P12 to P15.
use mathlib.Core.Path.{refl}
use Rattle.arithmetic.specs.Each.{Each}
use Rattle.arithmetic.specs.Conditions.{any_below}
use Rattle.risk_class.specs.ClassTable.{class_at}
use Rattle.risk_class.specs.Mitigation.{credit_at, final_class_of}
use Rattle.risk_class.specs.Points.{final_points, FinalPointHolds}

pub final_points_hold : Each FinalPointHolds final_points
unfolding final_class_of credit_at class_at any_below
final_points_hold = (refl, (refl, (refl, (refl, tt))))
