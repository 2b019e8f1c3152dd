-- Conditions on numbers: out of a range; at some index below n.
use Rattle.std.specs.Prelude.{Bool, false, ◌||◌, ℕ, zero, suc, ltb}

-- n is below low or above high
abbrev pub outside : ℕ → ℕ → ℕ → Bool
outside low high n = ltb n low || ltb high n

-- p holds at one of 0, .., n - 1
unfoldable pub any_below : (ℕ → Bool) → ℕ → Bool
any_below p zero = false
any_below p (suc n) = any_below p n || p n
