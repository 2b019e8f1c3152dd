-- How wide the bracket is: its factors are at most 2 thousandths apart, and the lower is at least 2,300.
use Prim.Native.Nat.{ℕ, ◌+◌, ◌-◌, ◌*◌, ◌/◌, ◌≤◌}
use native.Mathlib.Nat.{mul-le-mul_right}
use native.Mathlib.Omega.{arith}
use Rattle.arithmetic.specs.Rounding.{div_up}
use Rattle.columns.specs.ExactColumn.{MeetsAtMostOneLimit}
use Rattle.columns.specs.declared.Bracket.{Bracket}
use Rattle.columns.proofs.LimitLaws.{limit_tenfold, limit_mono}
use Rattle.high_angle.specs.SafetyFactor.{factor_below}
use Rattle.high_angle.specs.HighAngle.{area_den}
use Rattle.exact_high_angle.specs.Accuracy.{NoWiderThanOnePartIn, sharpest_parts}

-- 2 thousandths are one part in 1,151 of 2,302 thousandths, the least factor that can lie 2 above the low one
pub width_at : (f g x : ℕ) → factor_below ≤ f → g ≤ f + 2 → sharpest_parts * (div_up (g * x) area_den - f * x / area_den) ≤ div_up (g * x) area_den + sharpest_parts * 2
unfolding div_up
width_at f g x k h = omega (arith, mul-le-mul_right x h, mul-le-mul_right x k)

-- what is no wider than the sharpest is no wider than one part in 500
pub no_wider_than_one_in_500 : (area : Bracket) → NoWiderThanOnePartIn sharpest_parts area → NoWiderThanOnePartIn 500 area
no_wider_than_one_in_500 area h = omega arith

-- two limits lie ten times apart, and the bracket is narrower than that
pub meets_at_most_one : (area : Bracket) → NoWiderThanOnePartIn 500 area → MeetsAtMostOneLimit area
meets_at_most_one area width i h l = omega (arith, limit_tenfold i h, limit_mono 0 i (omega arith) (omega arith))
