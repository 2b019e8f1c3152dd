-- The joules are the exact energy, rounded down and up.
use mathlib.Core.Path.{◌≡◌}
use Prim.Native.Nat.{ℕ, ◌*◌, ◌/◌, ◌≤◌, ◌<◌}
use native.Mathlib.Nat.{mul-le-mul_right, le_of_mul-le-mul_right}
use native.Mathlib.Omega.{arith}
use Rattle.arithmetic.specs.Rounding.{div_up}
use Rattle.arithmetic.specs.Fraction.{Fraction, ◌over◌, times, divided, ◌⊑◌}
use Rattle.arithmetic.proofs.FractionLaws.{trans_le}
use Rattle.arithmetic.proofs.RoundingLaws.{down_low, up_high, le_down, up_le}
use Rattle.frontal_area.specs.FrontalArea.{frontal_area_of}
use Rattle.frontal_area.proofs.PromisesHold.{frontal_area_promise}
use Rattle.high_angle.specs.HighAngle.{energy_num, energy_den}
use Rattle.exact_high_angle.specs.ExactHighAngle.{exact_energy}

-- a fraction's whole numbers below and above, by another form of it, n over d
module _ (e : Fraction) (n d : ℕ) (pos : 0 < e.den) (d_pos : 0 < d) (same : e.num * d ≡ n * e.den) where
  pub floor_low : n / d over 1 ⊑ e
  floor_low = trans_le (n / d over 1) (n over d) e d_pos (omega (arith, down_low n d)) (omega arith)

  pub ceiling_high : e ⊑ div_up n d over 1
  ceiling_high = trans_le e (n over d) (div_up n d over 1) d_pos (omega arith) (omega (arith, up_high n d d_pos))

  -- where it is at least a whole number, so is the floor
  pub floor_least : (x : ℕ) → x * e.den ≤ e.num → x ≤ n / d
  floor_least x h =
      le_down x n d d_pos (le_of_mul-le-mul_right {k = e.den} (omega (arith, mul-le-mul_right d h)) pos)

  pub ceiling_most : (x : ℕ) → e.num ≤ x * e.den → div_up n d ≤ x
  ceiling_most x h =
      up_le x n d d_pos (le_of_mul-le-mul_right {k = e.den} (omega (arith, mul-le-mul_right d h)) pos)

module _ (w m : ℕ) where
  pub energy_pos : 0 < (exact_energy w m).den
  unfolding exact_energy divided times
  energy_pos = omega (arith, frontal_area_promise.least w)

  -- the paper's formula is that of the joules
  pub energy_is : (exact_energy w m).num * energy_den (frontal_area_of w) ≡ energy_num m * (exact_energy w m).den
  unfolding exact_energy divided times
  energy_is = omega arith
