-- Rounds that keep twice their guess. Only private functions are stated by it.
use Rattle.std.specs.Prelude.{◌≡◌, true, T, Float}
use Rattle.std.specs.Float.{binary64}
use Rattle.std.specs.Float.Ieee.{fits, add, mul, div}
use Rattle.fall.specs.Step.{half}
use Rattle.fall.specs.TwoSteps.{in_range}

-- of twice the sum and twice a guess: twice the next guess
abbrev pub next_twice : Float → Float → Float
next_twice sum guess = add binary64 (mul binary64 guess half) (div binary64 sum guess)

-- a sum and a first guess in range
pub record Doubles (sum first : Float) : Type 0 where
  pub sum_fits : T (fits binary64 sum)
  pub range : in_range sum first ≡ true
