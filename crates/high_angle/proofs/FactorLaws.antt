-- The factor: which it is, its bounds, and how far apart the low and the high one are.
use mathlib.Core.Path.{◌≡◌, refl}
use mathlib.Core.Bool.{Bool, true, false, cond}
use mathlib.Core.Logic.{⊎_elim}
use Prim.Native.Nat.{ℕ, ◌+◌, ◌*◌, ◌^◌, ◌≤◌, ◌<◌}
use native.Mathlib.Nat.{mul-le-mul, mul-le-mul_left, le_refl}
use native.Mathlib.Omega.{arith}
use lib.Dec.{ltb, lit≤}
use borrow.Author.Tests.{ltb-true, ltb-false, lt-ltb, le-ltb}
use Rattle.arithmetic.proofs.TestLaws.{lt_or_le}
use Rattle.high_angle.specs.SafetyFactor.{largest, smallest, root_from, root_to, factor_below, factor_above, root_scale, factor_by, low_factor, high_factor}
use Rattle.high_angle.proofs.RootLaws.{product, power_at_most, largest_low, largest_high, largest_most, largest_mono, smallest_high, smallest_low, smallest_most, smallest_mono, smallest_above}

-- what holds in each of the three cases of the joules holds of the factor
pub by_joules : (P : ℕ → Type 0) (root : ℕ → ℕ) (j : ℕ) → (j < root_from → P factor_below) → (root_to < j → P factor_above) →
    (root_from ≤ j → j ≤ root_to → P (root (root_scale * j))) → P (factor_by root j)
by_joules P root j below above between = by_tests (ltb j root_from) (ltb root_to j) refl refl
  where
    by_tests : (b c : Bool) → ltb j root_from ≡ b → ltb root_to j ≡ c → P (cond b factor_below (cond c factor_above (root (root_scale * j))))
    by_tests true c eb ec = below (ltb-true _ _ eb)
    by_tests false true eb ec = above (ltb-true _ _ ec)
    by_tests false false eb ec = between (ltb-false _ _ eb) (ltb-false _ _ ec)

-- which factor it is
module _ (root : ℕ → ℕ) (j : ℕ) where
  pub factor_below_lem : j < root_from → factor_by root j ≡ factor_below
  factor_below_lem h = simp (lt-ltb _ _ h)

  pub factor_above_lem : root_to < j → factor_by root j ≡ factor_above
  factor_above_lem h = simp (le-ltb j root_from (omega arith), lt-ltb _ _ h)

  pub factor_between : root_from ≤ j → j ≤ root_to → factor_by root j ≡ root (root_scale * j)
  factor_between h l = simp (le-ltb _ _ h, le-ltb _ _ l)

-- the roots' bounds: 2,301⁵ is at most the constant × 12,000, and 7,000⁵ is the constant × 3,125,000
pub scaled_least : (j : ℕ) → root_from ≤ j → (factor_below + 1) ^ 5 ≤ root_scale * j
scaled_least j h = omega (arith, mul-le-mul_left root_scale h)

pub scaled_most : (j : ℕ) → j ≤ root_to → root_scale * j ≤ factor_above ^ 5
scaled_most j h = omega (arith, mul-le-mul_left root_scale h)

module _ (j : ℕ) (h : root_from ≤ j) where
  pub low_root_least : factor_below + 1 ≤ largest factor_above (root_scale * j)
  low_root_least = largest_high (root_scale * j) factor_above (factor_below + 1) (lit≤ tt) (scaled_least j h)

  high_root_least : j ≤ root_to → factor_below + 1 ≤ smallest factor_above (root_scale * j)
  high_root_least l = smallest_above (root_scale * j) factor_above factor_below (scaled_most j l) (omega (arith, scaled_least j h))

pub low_least : (j : ℕ) → factor_below ≤ low_factor j
unfolding low_factor
low_least j =
    by_joules (λ f. factor_below ≤ f) (largest factor_above) j (λ _. le_refl _) (λ _. lit≤ tt) (λ h l. omega (arith, low_root_least j h))

pub low_most : (j : ℕ) → low_factor j ≤ factor_above
unfolding low_factor
low_most j =
    by_joules (λ f. f ≤ factor_above) (largest factor_above) j (λ _. lit≤ tt) (λ _. le_refl _) (λ h l. largest_most (root_scale * j) factor_above)

pub high_least : (j : ℕ) → factor_below ≤ high_factor j
unfolding high_factor
high_least j =
    by_joules (λ f. factor_below ≤ f) (smallest factor_above) j (λ _. le_refl _) (λ _. lit≤ tt) (λ h l. omega (arith, high_root_least j h l))

pub high_most : (j : ℕ) → high_factor j ≤ factor_above
unfolding high_factor
high_most j =
    by_joules (λ f. f ≤ factor_above) (smallest factor_above) j (λ _. lit≤ tt) (λ _. le_refl _) (λ h l. smallest_most (root_scale * j) factor_above)

-- the next number's fifth power is more than the constant above, so that at most one whole number lies between the roots of neighbouring joules
next_power : (g : ℕ) → factor_below + 1 ≤ g → g ^ 5 + root_scale ≤ (g + 1) ^ 5
next_power g h = rw (product g, product (g + 1)) (step (mul-le-mul (mul-le-mul (mul-le-mul h h) h) h))
  where
    step : 2301 * 2301 * 2301 * 2301 ≤ g * g * g * g → g * g * g * g * g + root_scale ≤ (g + 1) * (g + 1) * (g + 1) * (g + 1) * (g + 1)
    step k = omega arith

-- the joules' two ends, at most 1 apart
module _ (j k : ℕ) (h : j ≤ k) where
  roots_apart : k ≤ j + 1 → root_from ≤ j → k ≤ root_to → smallest factor_above (root_scale * k) ≤ largest factor_above (root_scale * j) + 2
  roots_apart l from to = ⊎_elim far (λ q. q) (lt_or_le (low + 2) high)
    where
      low : ℕ
      low = largest factor_above (root_scale * j)

      high : ℕ
      high = smallest factor_above (root_scale * k)

      far : low + 2 < high → high ≤ low + 2
      far q =
          let reached = smallest_low (root_scale * k) factor_above (low + 1 + 1) in
          let passed = largest_high (root_scale * j) factor_above (low + 1) (omega (arith, smallest_most (root_scale * k) factor_above)) in
          ⊎_elim
          (λ (p : root_scale * j < (low + 1) ^ 5).
          absurd (omega (arith, reached (omega (arith, next_power (low + 1) (omega (arith, low_root_least j from)), mul-le-mul_left root_scale l)))))
          (λ (p : (low + 1) ^ 5 ≤ root_scale * j). absurd (omega (arith, passed p)))
          (lt_or_le (root_scale * j) ((low + 1) ^ 5))

  -- Across 12,000 J the factor goes from 2.3 to a root of at most 2.302; across 3,125,000 J it stays 7.
  pub factors_apart : k ≤ j + 1 → high_factor k ≤ low_factor j + 2
  unfolding low_factor high_factor
  factors_apart l = by_joules (λ f. high_factor k ≤ f + 2) (largest factor_above) j below above between
    where
      below : j < root_from → high_factor k ≤ factor_below + 2
      below b =
          by_joules (λ g. g ≤ factor_below + 2) (smallest factor_above) k (λ _. lit≤ tt) (λ a. absurd (omega arith))
          (λ p q. smallest_low (root_scale * k) factor_above (factor_below + 2) (let same : k ≡ root_from = omega arith in rw same (lit≤ tt)))

      above : root_to < j → high_factor k ≤ factor_above + 2
      above b = omega (arith, high_most k)

      between : root_from ≤ j → j ≤ root_to → high_factor k ≤ largest factor_above (root_scale * j) + 2
      between a b =
          by_joules (λ g. g ≤ largest factor_above (root_scale * j) + 2) (smallest factor_above) k (λ c. absurd (omega arith)) top
          (λ p q. roots_apart l a q)
        where
          top : root_to < k → factor_above ≤ largest factor_above (root_scale * j) + 2
          top c =
              let same : j ≡ root_to = omega arith
              in omega (arith, largest_high (root_scale * j) factor_above factor_above (le_refl _) (rw same (lit≤ tt)))

  -- the low factor is at most the high one
  pub factors_ordered : low_factor j ≤ high_factor k
  unfolding low_factor high_factor
  factors_ordered =
      by_joules (λ f. f ≤ factor_by (smallest factor_above) k) (largest factor_above) j (λ _. high_least k)
      (λ b. omega (arith, factor_above_lem (smallest factor_above) k (omega arith)))
      (λ a b. by_joules (λ g. largest factor_above (root_scale * j) ≤ g) (smallest factor_above) k (λ c. absurd (omega arith)) (λ c. largest_most (root_scale * j) factor_above) (λ p q. roots q))
    where
      roots : k ≤ root_to → largest factor_above (root_scale * j) ≤ smallest factor_above (root_scale * k)
      roots q =
          let at_most = largest_low (root_scale * j) factor_above in
          let at_least_lem = smallest_high (root_scale * k) factor_above (scaled_most k q) in
          power_at_most (largest factor_above (root_scale * j)) (smallest factor_above (root_scale * k)) (omega (arith, mul-le-mul_left root_scale h))

  pub low_mono : low_factor j ≤ low_factor k
  unfolding low_factor
  low_mono =
      by_joules (λ f. f ≤ factor_by (largest factor_above) k) (largest factor_above) j (λ _. low_least k)
      (λ b. omega (arith, factor_above_lem (largest factor_above) k (omega arith)))
      (λ a b. by_joules (λ g. largest factor_above (root_scale * j) ≤ g) (largest factor_above) k (λ c. absurd (omega arith)) (λ c. largest_most (root_scale * j) factor_above) (λ p q. largest_mono factor_above _ _ (mul-le-mul_left root_scale h)))

  pub high_mono : high_factor j ≤ high_factor k
  unfolding high_factor
  high_mono =
      by_joules (λ f. f ≤ factor_by (smallest factor_above) k) (smallest factor_above) j (λ _. high_least k)
      (λ b. omega (arith, factor_above_lem (smallest factor_above) k (omega arith)))
      (λ a b. by_joules (λ g. smallest factor_above (root_scale * j) ≤ g) (smallest factor_above) k (λ c. absurd (omega arith)) (λ c. smallest_most (root_scale * j) factor_above) (λ p q. smallest_mono factor_above _ _ (mul-le-mul_left root_scale h) (scaled_most k q)))
