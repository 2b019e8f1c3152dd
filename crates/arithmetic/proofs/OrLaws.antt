-- Laws of the bitwise or over 0, .., n - 1: one index more, no value is larger, and it has no more bits than the values.
use mathlib.Core.Path.{◌≡◌}
use mathlib.Core.Logic.{⊎_elim}
use Prim.Native.Nat.{ℕ, zero, suc, ◌+◌, ◌^◌, ◌≤◌, ◌<◌}
use native.Mathlib.Nat.{le_trans}
use native.Mathlib.Numerals.{add-one}
use native.Mathlib.Omega.{arith}
use lib.Bits.{bit_or, or_add_and, and_le_l, and_le_r, or_lt}
use lib.Pow.{pow_pos}
use Rattle.arithmetic.proofs.TestLaws.{lt_or_le}

-- f 0 | f 1 | .. | f (n - 1)
unfoldable pub or_below : (ℕ → ℕ) → ℕ → ℕ
or_below f zero = 0
or_below f (suc n) = bit_or (or_below f n) (f n)

left_le : (a b : ℕ) → a ≤ bit_or a b
left_le a b = omega (arith, or_add_and a b, and_le_r a b)

right_le : (a b : ℕ) → b ≤ bit_or a b
right_le a b = omega (arith, or_add_and a b, and_le_l a b)

module _ (f : ℕ → ℕ) where
  -- one index more, as the code counts
  pub or_next : (n : ℕ) → or_below f (n + 1) ≡ bit_or (or_below f n) (f n)
  unfolding or_below
  or_next n = rw (add-one n)

  pub le_or : (n i : ℕ) → i < n → f i ≤ or_below f n
  unfolding or_below
  le_or zero i l = omega arith
  le_or (suc n) i l =
      ⊎_elim (λ (k : i < n). le_trans (le_or n i k) (left_le (or_below f n) (f n)))
      (λ (k : n ≤ i). let e : i ≡ n = omega arith in rw e (right_le (or_below f n) (f n)))
      (lt_or_le i n)

  pub or_below_lem : (k n : ℕ) → ((i : ℕ) → i < n → f i < 2 ^ k) → or_below f n < 2 ^ k
  unfolding or_below
  or_below_lem k zero h = pow_pos k
  or_below_lem k (suc n) h = or_lt k (or_below f n) (f n) (or_below_lem k n (λ i l. h i (omega arith))) (h n (omega arith))
