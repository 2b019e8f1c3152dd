-- Two steps side by side: what the function of that name tells. No promise rests on it.
use Rattle.std.specs.Prelude.{Bool, cond, ◌&&◌, Float, Option, Some, None}
use Rattle.std.specs.Float.Ieee.{eq, lt}
use Rattle.arithmetic.specs.Fraction.{◌over◌}
use Rattle.fall.specs.Numbers.{decimal, whole}
use Rattle.fall.specs.Step.{squares, first_guess, next_horizontal, next_downward, next_state}
use Rattle.fall.specs.declared.Body.{Body}
use Rattle.fall.specs.declared.Fall.{Fall}

-- in m²/s² and m/s: a sum of squares and a first guess for which doubling and halving are exact in all six rounds
abbrev pub in_range : Float → Float → Bool
in_range sum first = (lt (whole 0) sum && lt sum (whole 1000000000)) && lt (decimal (1 over 1000)) first

-- a step from s makes the speeds of t
unfoldable pub leads_to : Body → Fall → Fall → Bool
leads_to b s t = eq (next_horizontal b s) t.horizontal && eq (next_downward b s) t.downward

-- the state after a step from s, and whether it has the speeds of t and a step from t those of u
unfoldable pub two_steps_of : Body → Fall → Fall → Fall → Option (Fall × Bool)
two_steps_of b s t u =
    cond (in_range (squares s) (first_guess s) && in_range (squares t) (first_guess t)) (Some (next_state b s, leads_to b s t && leads_to b t u)) None
