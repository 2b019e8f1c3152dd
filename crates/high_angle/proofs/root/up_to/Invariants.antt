use mathlib.Core.Path.{◌≡◌}
use Prim.Native.Nat.{◌+◌, ◌-◌, ◌^◌, ◌≤◌}
use Rattle.high_angle.specs.SafetyFactor.{largest, factor_above}
use Rattle.high_angle.proofs.root.up_to.Given as goal

-- `up_to` goes up to the largest number whose fifth power is at most x.

abbrev pub invariant-loop-above : goal.invariant-loop-above
invariant-loop-above l = (l.low ≤ largest factor_above l.x) × (l.below ≡ l.low ^ 5) × (l.above ≡ (l.low + 1) ^ 5)

abbrev pub decreases-loop-above : goal.decreases-loop-above
decreases-loop-above l = largest factor_above l.x - l.low
