use mathlib.Core.Path.{◌≡◌}
use Prim.Native.Nat.{◌-◌, ◌^◌, ◌≤◌}
use Rattle.high_angle.specs.SafetyFactor.{smallest, factor_above}
use Rattle.high_angle.proofs.root.smallest_at_least.Given as goal

-- `smallest_at_least` goes up to the smallest number whose fifth power is at least x.

abbrev pub invariant-loop-power : goal.invariant-loop-power
invariant-loop-power l = (l.high ≤ smallest factor_above l.x) × (l.power ≡ l.high ^ 5)

abbrev pub decreases-loop-power : goal.decreases-loop-power
decreases-loop-power l = smallest factor_above l.x - l.high
