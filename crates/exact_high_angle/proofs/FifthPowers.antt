-- Fifth powers of fractions: they go with the order, both ways, and with the product.
use mathlib.Core.Path.{◌≡◌, ap₂}
use Prim.Native.Nat.{ℕ, ◌*◌, ◌^◌, ◌<◌}
use native.Mathlib.Nat.{pow-le-pow_left, one-le-pow}
use native.Mathlib.Omega.{arith}
use Rattle.arithmetic.specs.Fraction.{Fraction, ◌over◌, times, ◌⊑◌}
use Rattle.high_angle.proofs.RootLaws.{product, power_at_most}
use Rattle.exact_high_angle.specs.ExactHighAngle.{fifth_power}

power_times : (a b : ℕ) → (a * b) ^ 5 ≡ a ^ 5 * b ^ 5
power_times a b = rw (product (a * b), product a, product b) (omega arith)

module _ (a b : Fraction) where
  pub fifth_mono : a ⊑ b → fifth_power a ⊑ fifth_power b
  unfolding fifth_power
  fifth_mono h =
      rw (← (power_times a.num b.den), ← (power_times b.num a.den)) (pow-le-pow_left h 5)

  pub fifth_order : fifth_power a ⊑ fifth_power b → a ⊑ b
  unfolding fifth_power
  fifth_order h =
      power_at_most (a.num * b.den) (b.num * a.den) (rw (power_times a.num b.den, power_times b.num a.den) h)

  pub fifth_times : fifth_power (times a b) ≡ times (fifth_power a) (fifth_power b)
  unfolding fifth_power times
  fifth_times = ap₂ (λ (n d : ℕ). n over d) (power_times a.num b.num) (power_times a.den b.den)

pub fifth_pos : (a : Fraction) → 0 < a.den → 0 < (fifth_power a).den
unfolding fifth_power
fifth_pos a h = one-le-pow 5 a.den h
