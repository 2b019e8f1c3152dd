-- The laws of fractions: the four operations go with the order, a denominator stays above zero, and products associate.
use mathlib.Core.Path.{◌≡◌, ap₂}
use Prim.Native.Nat.{ℕ, ◌-◌, ◌*◌, ◌<◌}
use native.Mathlib.Nat.{mul-le-mul_right, mul-sub, mul_comm, mul_assoc, mul-pos, le_of_mul-le-mul_right, le_refl}
use native.Mathlib.Omega.{arith}
use Rattle.arithmetic.specs.Fraction.{Fraction, ◌over◌, plus, minus, times, divided, ◌⊑◌}

pub refl_le : (a : Fraction) → a ⊑ a
refl_le a = le_refl _

pub trans_le : (a b c : Fraction) → 0 < b.den → a ⊑ b → b ⊑ c → a ⊑ c
trans_le a b c pos h k =
    le_of_mul-le-mul_right {k = b.den} (omega (arith, mul-le-mul_right c.den h, mul-le-mul_right a.den k)) pos

pub plus_mono : (a b p q : Fraction) → a ⊑ p → b ⊑ q → plus a b ⊑ plus p q
unfolding plus
plus_mono a b p q h k =
    omega (arith, mul-le-mul_right (b.den * q.den) h, mul-le-mul_right (a.den * p.den) k)

pub times_mono : (a b p q : Fraction) → a ⊑ p → b ⊑ q → times a b ⊑ times p q
unfolding times
times_mono a b p q h k =
    omega (arith, mul-le-mul_right (b.num * q.den) h, mul-le-mul_right (p.num * a.den) k)

pub divided_mono : (a b p q : Fraction) → a ⊑ p → q ⊑ b → divided a b ⊑ divided p q
unfolding divided
divided_mono a b p q h k =
    omega (arith, mul-le-mul_right (b.den * q.num) h, mul-le-mul_right (p.num * a.den) k)

pub minus_mono : (a b p q : Fraction) → a ⊑ p → q ⊑ b → minus a b ⊑ minus p q
unfolding minus
minus_mono a b p q h k =
    omega (
      arith,
      mul-le-mul_right (b.den * q.den) h,
      mul-le-mul_right (a.den * p.den) k,
      mul_comm (p.den * q.den) (a.num * b.den - b.num * a.den),
      mul-sub (p.den * q.den) (a.num * b.den) (b.num * a.den),
      mul_comm (a.den * b.den) (p.num * q.den - q.num * p.den),
      mul-sub (a.den * b.den) (p.num * q.den) (q.num * p.den),
    )

pub plus_pos : (a b : Fraction) → 0 < a.den → 0 < b.den → 0 < (plus a b).den
unfolding plus
plus_pos a b h k = mul-pos h k

pub times_pos : (a b : Fraction) → 0 < a.den → 0 < b.den → 0 < (times a b).den
unfolding times
times_pos a b h k = mul-pos h k

pub times_assoc : (a b c : Fraction) → times (times a b) c ≡ times a (times b c)
unfolding times
times_assoc a b c =
    ap₂ (λ (n d : ℕ). n over d) (mul_assoc a.num b.num c.num) (mul_assoc a.den b.den c.den)
