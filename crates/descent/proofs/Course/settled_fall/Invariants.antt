use mathlib.Core.Path.{◌≡◌}
use Prim.Native.Nat.{◌-◌}
use Rattle.descent.specs.Descent.{fall_from}
use Rattle.descent.specs.PrivateSettled.{Settled}
use Rattle.descent.proofs.Course.settled_fall.Given as goal

-- `settled_fall` lets the distance alone grow.

abbrev pub invariant-loop-taken : goal.invariant-loop-taken
invariant-loop-taken l =
    Settled l.self.body l.state
    × (fall_from l.self.body l.self.height (l.self.budget - l.fn.steps) l.fn.steps l.fn.from ≡ fall_from l.self.body l.self.height (l.self.budget - l.taken) l.taken l.state)
