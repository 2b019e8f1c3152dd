-- The sum and the maximum of f over the indices 0, 1, .., n - 1, and the first index that no other beats.
use Rattle.std.specs.Prelude.{Bool, cond, ℕ, zero, suc, ◌+◌, max}

-- f 0 + f 1 + .. + f (n - 1)
unfoldable pub sum_below : (ℕ → ℕ) → ℕ → ℕ
sum_below f zero = 0
sum_below f (suc n) = sum_below f n + f n

-- the largest of f 0, .., f (n - 1), and 0 where n is 0
unfoldable pub max_below : (ℕ → ℕ) → ℕ → ℕ
max_below f zero = 0
max_below f (suc n) = max (max_below f n) (f n)

-- the best of the indices below n: each in its turn is taken where it beats the best before it, as `beats q p` says of q and p; 0 where none is.
-- Where a number for each index gives the relation, this is the first index with the largest
unfoldable pub first_best : (ℕ → ℕ → Bool) → ℕ → ℕ
first_best beats zero = 0
first_best beats (suc n) = cond (beats n (first_best beats n)) n (first_best beats n)
