-- The worked points, by computation.
use mathlib.Core.Path.{refl}
use Rattle.arithmetic.specs.Each.{Each}
use Rattle.arithmetic.specs.Fraction.{plus, times, divided}
use Rattle.arithmetic.specs.Rounding.{div_up}
use Rattle.arithmetic.proofs.EachLaws.{each_equal}
use Rattle.columns.specs.Column.{column_by, column_of, flag_of}
use Rattle.exact_area.specs.ExactArea.{half_width}
use Rattle.frontal_area.specs.FrontalArea.{frontal_area_of}
use Rattle.high_angle.specs.SafetyFactor.{largest, smallest, low_factor, high_factor}
use Rattle.high_angle.specs.HighAngle.{joules_of, factor_of, area_of, accepted_with, accepted_high_angle, high_angle_of}
use Rattle.exact_high_angle.specs.ExactHighAngle.{exact_energy, factor_at, circle_of, fifth_power, area_side, number_side, exact_column}
use Rattle.exact_high_angle.specs.Points.{worked_of, PointHolds}
use Rattle.exact_high_angle.specs.PointTable.{points}

pub points_hold : Each PointHolds points
unfolding high_angle_of accepted_high_angle accepted_with area_of factor_of joules_of low_factor high_factor largest smallest frontal_area_of flag_of column_of column_by exact_column area_side number_side fifth_power circle_of factor_at exact_energy half_width plus times divided div_up
points_hold = each_equal (λ p. worked_of p.w p.m p.v) (λ p. p.worked) points refl
