use mathlib.Core.Path.{refl}
use Prim.Native.Nat.{ℕ, ◌*◌, ◌≤◌}
use native.Mathlib.Nat.{mul-le-mul, mul-le-mul_left}
use native.Mathlib.Omega.{arith}
use Rattle.arithmetic.specs.Rounding.{div_up}
use Rattle.high_angle.specs.SafetyFactor.{factor_above}
use Rattle.high_angle.specs.HighAngle.{area_num, area_of}
use Rattle.high_angle.specs.PrivateBounds.{width_max}
use Rattle.high_angle.proofs.area.Goals as goal

-- `area` rounds the factor × 3.14 × D² outward.

module _ (a f : ℕ) (h : a ≤ width_max) where
  square_fits : a * a ≤ 40600 * 40600
  square_fits = mul-le-mul h h

  product_fits : f ≤ factor_above → area_num a f ≤ 7000 * (157 * (40600 * 40600))
  product_fits k = mul-le-mul k (mul-le-mul_left 157 square_fits)

pub overflow_mul-square : goal.overflow_mul-square
overflow_mul-square c = omega (arith, square_fits c.args.a 0 c.requires.0)

pub overflow_mul-square-2 : goal.overflow_mul-square-2
overflow_mul-square-2 c = omega (arith, square_fits c.args.a 0 c.requires.0)

pub overflow_mul-low : goal.overflow_mul-low
overflow_mul-low c = omega (arith, product_fits c.args.a c.args.factor.low c.requires.0 c.requires.1)

pub overflow_mul-high : goal.overflow_mul-high
overflow_mul-high c = omega (arith, product_fits c.args.a c.args.factor.high c.requires.0 c.requires.2)

pub overflow_add-high : goal.overflow_add-high
overflow_add-high c = omega (arith, product_fits c.args.a c.args.factor.high c.requires.0 c.requires.2)

pub returns : goal.returns
unfolding area_of div_up
returns c = refl
