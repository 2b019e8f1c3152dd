-- What tells the two roots: the fifth powers around them.
use mathlib.Core.Path.{◌≡◌, refl}
use mathlib.Core.Bool.{Bool, true, false, cond}
use mathlib.Core.Logic.{⊎_elim}
use Prim.Native.Nat.{ℕ, zero, suc, ◌*◌, ◌^◌, ◌≤◌, ◌<◌}
use native.Mathlib.Nat.{pow-le-pow_left, pow-lt-pow_left, pow-suc, pow-zero, one-mul, le_of_suc-le-suc, le_trans}
use native.Mathlib.Omega.{arith}
use lib.Dec.{leb, ltb}
use borrow.Author.Tests.{leb-true, leb-false, ltb-true, ltb-false}
use Rattle.arithmetic.proofs.TestLaws.{lt_or_le}
use Rattle.high_angle.specs.SafetyFactor.{largest, smallest}

pub product : (f : ℕ) → f ^ 5 ≡ f * f * f * f * f
product f = simp (pow-suc f 4, pow-suc f 3, pow-suc f 2, pow-suc f 1, pow-suc f 0, pow-zero, one-mul)

-- what isn't below is at least
not_below : {a b : ℕ} → (a < b → ⊥) → b ≤ a
not_below {a} {b} h = ⊎_elim (λ (l : a < b). absurd (h l)) (λ l. l) (lt_or_le a b)

-- a smaller fifth power, a smaller number
pub power_below : (a b : ℕ) → a ^ 5 < b ^ 5 → a < b
power_below a b h = not_below (λ (l : b < suc a). absurd (omega (arith, pow-le-pow_left {n = b} {m = a} (le_of_suc-le-suc l) 5)))

-- a fifth power that isn't larger, a number that isn't larger
pub power_at_most : (a b : ℕ) → a ^ 5 ≤ b ^ 5 → a ≤ b
power_at_most a b h = not_below (λ (l : b < a). absurd (omega (arith, pow-lt-pow_left {n = 5} l (λ z. absurd (omega arith)))))

module _ (x : ℕ) where
  -- the largest one's fifth power is at most x
  pub largest_low : (n : ℕ) → largest n x ^ 5 ≤ x
  unfolding largest
  largest_low zero = omega arith
  largest_low (suc n) = by_test (leb (suc n ^ 5) x) refl (largest_low n)
    where
      by_test : (t : Bool) → leb (suc n ^ 5) x ≡ t → largest n x ^ 5 ≤ x → cond t (suc n) (largest n x) ^ 5 ≤ x
      by_test true e rest = leb-true _ _ e
      by_test false e rest = rest

  pub largest_most : (n : ℕ) → largest n x ≤ n
  unfolding largest
  largest_most zero = omega arith
  largest_most (suc n) = by_test (leb (suc n ^ 5) x) (largest_most n)
    where
      by_test : (t : Bool) → largest n x ≤ n → cond t (suc n) (largest n x) ≤ suc n
      by_test true rest = omega arith
      by_test false rest = omega arith

  -- each number up to n whose fifth power is at most x is at most the largest
  pub largest_high : (n k : ℕ) → k ≤ n → k ^ 5 ≤ x → k ≤ largest n x
  unfolding largest
  largest_high zero k h p = h
  largest_high (suc n) k h p = by_test (leb (suc n ^ 5) x) refl (λ l. largest_high n k l p)
    where
      by_test : (t : Bool) → leb (suc n ^ 5) x ≡ t → (k ≤ n → k ≤ largest n x) → k ≤ cond t (suc n) (largest n x)
      by_test true e rest = h
      by_test false e rest = rest (le_of_suc-le-suc (power_below k (suc n) (omega (arith, leb-false (suc n ^ 5) x e))))

  -- the smallest one's fifth power is at least x, where that of n is
  pub smallest_high : (n : ℕ) → x ≤ n ^ 5 → x ≤ smallest n x ^ 5
  unfolding smallest
  smallest_high zero h = h
  smallest_high (suc n) h = by_test (ltb (n ^ 5) x) refl (smallest_high n)
    where
      by_test : (t : Bool) → ltb (n ^ 5) x ≡ t → (x ≤ n ^ 5 → x ≤ smallest n x ^ 5) → x ≤ cond t (suc n) (smallest n x) ^ 5
      by_test true e rest = h
      by_test false e rest = rest (ltb-false _ _ e)

  pub smallest_most : (n : ℕ) → smallest n x ≤ n
  unfolding smallest
  smallest_most zero = omega arith
  smallest_most (suc n) = by_test (ltb (n ^ 5) x) (smallest_most n)
    where
      by_test : (t : Bool) → smallest n x ≤ n → cond t (suc n) (smallest n x) ≤ suc n
      by_test true rest = omega arith
      by_test false rest = omega arith

  -- each number whose fifth power is at least x is at least the smallest
  pub smallest_low : (n k : ℕ) → x ≤ k ^ 5 → smallest n x ≤ k
  unfolding smallest
  smallest_low zero k p = omega arith
  smallest_low (suc n) k p = by_test (ltb (n ^ 5) x) refl (smallest_low n k p)
    where
      by_test : (t : Bool) → ltb (n ^ 5) x ≡ t → smallest n x ≤ k → cond t (suc n) (smallest n x) ≤ k
      by_test true e rest = power_below n k (omega (arith, ltb-true (n ^ 5) x e))
      by_test false e rest = rest

  -- a number whose fifth power is below x is below the smallest
  pub smallest_above : (n a : ℕ) → x ≤ n ^ 5 → a ^ 5 < x → a < smallest n x
  smallest_above n a t h = power_below a (smallest n x) (omega (arith, smallest_high n t))

module _ (n x y : ℕ) (h : x ≤ y) where
  pub largest_mono : largest n x ≤ largest n y
  largest_mono = largest_high y n (largest n x) (largest_most x n) (le_trans (largest_low x n) h)

  pub smallest_mono : y ≤ n ^ 5 → smallest n x ≤ smallest n y
  smallest_mono t = smallest_low x n (smallest n y) (le_trans h (smallest_high y n t))
