-- The first maximum of f over the indices 0, 1, .., n - 1. Only private functions are stated by it.
use Rattle.std.specs.Prelude.{cond, ℕ, zero, suc, ltb}
use Rattle.arithmetic.specs.SumsAndMaxima.{max_below}

-- the first index below n at which f is largest, and 0 where f is 0 throughout
unfoldable pub first_max_below : (ℕ → ℕ) → ℕ → ℕ
first_max_below f zero = 0
first_max_below f (suc n) = cond (ltb (max_below f n) (f n)) n (first_max_below f n)
