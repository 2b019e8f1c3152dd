use mathlib.Core.Path.{◌≡◌}
use Prim.Native.Nat.{◌-◌, ◌≤◌}
use Rattle.descent.specs.Descent.{fall_from}
use Rattle.descent.proofs.Course.fall_from.Given as goal

-- `fall_from` steps until a state has a negative speed or has reached the ground, or the budget is spent: what is left to do at each turn gives the whole
-- answer.

abbrev pub invariant-loop-at : goal.invariant-loop-at
invariant-loop-at l =
    (l.at.steps ≤ l.self.budget) × (fall_from l.self.body l.self.height l.self.budget 0 l.initial.at.state ≡ fall_from l.self.body l.self.height (l.self.budget - l.at.steps) l.at.steps l.at.state)

abbrev pub decreases-loop-at : goal.decreases-loop-at
decreases-loop-at l = l.self.budget - l.at.steps
