use mathlib.Core.Path.{◌≡◌}
use Prim.Native.Nat.{◌^◌, ◌≤◌}
use Rattle.high_angle.specs.PrivateBounds.{base_max}
use Rattle.high_angle.proofs.root.at_most.Given as goal

-- `at_most` goes down to a fifth power that is at most x.

abbrev pub invariant-loop-power : goal.invariant-loop-power
invariant-loop-power l = (l.base ≤ base_max) × (l.power ≡ l.base ^ 5)

abbrev pub decreases-loop-power : goal.decreases-loop-power
decreases-loop-power l = l.base
