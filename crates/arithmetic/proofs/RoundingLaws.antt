-- Division rounded down and up, by any divisor above zero: the bracket that each keeps, and how each goes with its operands.
use mathlib.Core.Path.{◌≡◌}
use mathlib.Core.Logic.{⊎_elim}
use Prim.Native.Nat.{ℕ, suc, ◌+◌, ◌-◌, ◌*◌, ◌/◌, ◌%◌, ◌≤◌, ◌<◌}
use native.Mathlib.Nat.{mod-eq-sub-div-mul, div-mul-le_self, lt-div-mul-add, le-div_iff_mul-le, mul-le-mul_left, le_trans, div-lt_iff_lt-mul, suc-le-suc_iff, mul-le-mul_right, le_of_mul-le-mul_right, lt_of_mul-lt-mul_right, le_antisymm, mul-pos}
use native.Mathlib.Omega.{arith}
use Rattle.arithmetic.specs.Rounding.{div_up}
use Rattle.arithmetic.proofs.TestLaws.{lt_or_le}

pub down_low : (a b : ℕ) → a / b * b ≤ a
down_low a b = div-mul-le_self a b

pub down_high : (a b : ℕ) → 0 < b → a < a / b * b + b
down_high a b h = lt-div-mul-add h

pub up_high : (a b : ℕ) → 0 < b → a ≤ div_up a b * b
unfolding div_up
up_high a b h = omega (arith, lt-div-mul-add {a = a + (b - 1)} h)

-- the quotients' own characterisations: x ≤ a / b and div_up a b ≤ x
pub le_down : (x a b : ℕ) → 0 < b → x * b ≤ a → x ≤ a / b
le_down x a b h k = (le-div_iff_mul-le h).1 k

pub up_le : (x a b : ℕ) → 0 < b → a ≤ x * b → div_up a b ≤ x
unfolding div_up
up_le x a b h k = suc-le-suc_iff.0 ((div-lt_iff_lt-mul {x = a + (b - 1)} {y = suc x} h).1 (omega arith))

-- one more, rounded up, is one more than the quotient
pub up_next : (a b : ℕ) → 0 < b → div_up (a + 1) b ≡ a / b + 1
up_next a b h =
    le_antisymm (up_le (a / b + 1) (a + 1) b h (omega (arith, down_high a b h)))
    (omega (arith, lt_of_mul-lt-mul_right b {m = a / b} {n = div_up (a + 1) b} (omega (arith, up_high (a + 1) b h, down_low a b))))

pub down_mono : (a c b : ℕ) → 0 < b → a ≤ c → a / b ≤ c / b
down_mono a c b h k = le_down (a / b) c b h (le_trans (down_low a b) k)

pub up_mono : (a c b : ℕ) → 0 < b → a ≤ c → div_up a b ≤ div_up c b
up_mono a c b h k = up_le (div_up c b) a b h (le_trans k (up_high c b h))

-- the quotient rounded up, from the one rounded down and the remainder
pub up_exact : (a b : ℕ) → 0 < b → a % b ≡ 0 → a / b ≡ div_up a b
up_exact a b h e =
    let all : a / b * b ≡ a = omega (arith, mod-eq-sub-div-mul a b, down_low a b) in
    le_antisymm (le_of_mul-le-mul_right {k = b} (omega (arith, up_high a b h)) h) (up_le (a / b) a b h (omega arith))

pub up_inexact : (a b : ℕ) → 0 < b → (a % b ≡ 0 → ⊥) → a / b + 1 ≡ div_up a b
up_inexact a b h e =
    le_antisymm (omega (arith, lt_of_mul-lt-mul_right b {m = a / b} {n = div_up a b} (omega (arith, below, up_high a b h))))
    (up_le (a / b + 1) a b h (omega (arith, down_high a b h)))
  where
    below : a / b * b < a
    below = ⊎_elim (λ q. q) (λ (q : a ≤ a / b * b). absurd (e (omega (arith, mod-eq-sub-div-mul a b)))) (lt_or_le (a / b * b) a)

-- the two quotients are at most one apart
pub rounded_apart : (a b : ℕ) → 0 < b → (a / b ≤ div_up a b) × (div_up a b ≤ a / b + 1)
rounded_apart a b h = (
  le_of_mul-le-mul_right {k = b} (omega (arith, down_low a b, up_high a b h)) h,
  up_le (a / b + 1) a b h (omega (arith, down_high a b h)),
)

-- a larger divisor, a smaller quotient
pub down_anti : (a b d : ℕ) → 0 < b → b ≤ d → a / d ≤ a / b
down_anti a b d h k = le_down (a / d) a b h (le_trans (mul-le-mul_left (a / d) k) (down_low a d))

pub up_anti : (a b d : ℕ) → 0 < b → b ≤ d → div_up a d ≤ div_up a b
up_anti a b d h k =
    up_le (div_up a b) a d (omega arith) (le_trans (up_high a b h) (mul-le-mul_left (div_up a b) k))

-- two rates compared at numerals: x is at most y · q / p, and q / p is at most c / d
pub rate : (x y p q c d : ℕ) → 0 < p → x * p ≤ y * q → q * d ≤ p * c → x * d ≤ y * c
rate x y p q c d pos h k =
    le_of_mul-le-mul_right {k = p} (omega (arith, mul-le-mul_right d h, mul-le-mul_left y k)) pos

-- a fraction's two numbers times the same number; rounded down it is the library's mul-div-mul_left
pub scaled_up : (k n d : ℕ) → 0 < k → 0 < d → div_up (k * n) (k * d) ≡ div_up n d
scaled_up k n d h l =
    let above : 0 < k * d = mul-pos h l
    in le_antisymm
    (up_le (div_up n d) (k * n) (k * d) above (omega (arith, mul-le-mul_left k (up_high n d l))))
    (up_le (div_up (k * n) (k * d)) n d l (le_of_mul-le-mul_right {k = k} (omega (arith, up_high (k * n) (k * d) above)) h))
