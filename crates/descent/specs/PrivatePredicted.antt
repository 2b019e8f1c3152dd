-- What the private functions know of a predicted state, and of steps taken ahead. Only private functions are stated by it.
use Rattle.std.specs.Prelude.{◌≡◌, Bool, not, ◌&&◌, T, ◌-◌, ◌≤◌, Float}
use Rattle.std.specs.Float.{binary64}
use Rattle.std.specs.Float.Ieee.{fits, lt}
use Rattle.fall.specs.Numbers.{whole}
use Rattle.fall.specs.Step.{fallen_to}
use Rattle.fall.specs.declared.Fall.{Fall}
use Rattle.descent.specs.Descent.{ground_reached, fall_from}
use Rattle.descent.specs.declared.Course.{Course}
use Rattle.descent.specs.declared.predict.Progress.{Progress}

-- the state p, predicted of s: its speeds are any two f64, its distance goes with them
pub record Predicted (s p : Fall) : Type 0 where
  pub horizontal_fits : T (fits binary64 p.horizontal)
  pub downward_fits : T (fits binary64 p.downward)
  pub fallen_is : p.fallen ≡ fallen_to s p.downward

-- falling faster than before, with a horizontal speed above zero, and the ground isn't reached
abbrev pub in_flight : Float → Fall → Fall → Bool
in_flight h before s = (lt (whole 0) s.horizontal && lt before.downward s.downward) && not (ground_reached h s)

-- from one progress to another within the budget: what is left of the fall is the same
abbrev pub SameFall : Course → Progress → Progress → Type 0
SameFall c from to =
    (from.steps ≤ to.steps) × (to.steps ≤ c.budget)
    × (fall_from c.body c.height (c.budget - from.steps) from.steps from.state ≡ fall_from c.body c.height (c.budget - to.steps) to.steps to.state)
