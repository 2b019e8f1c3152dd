use mathlib.Core.Path.{◌≡◌}
use mathlib.Core.Bool.{true}
use Prim.Native.Nat.{◌-◌}
use lib.Ieee.{lt}
use Rattle.fall.specs.Numbers.{whole}
use Rattle.descent.specs.PrivatePredicted.{SameFall}
use Rattle.descent.proofs.Course.confirmed_steps.Given as goal

-- `confirmed_steps` takes predicted states only where the exact steps make them, in flight: what is left of the fall stays the same.

abbrev pub invariant-loop-at : goal.invariant-loop-at
invariant-loop-at l = SameFall l.self l.initial.at l.at × (lt (whole 0) l.at.state.downward ≡ true)

abbrev pub decreases-loop-at : goal.decreases-loop-at
decreases-loop-at l = l.self.budget - l.at.steps
