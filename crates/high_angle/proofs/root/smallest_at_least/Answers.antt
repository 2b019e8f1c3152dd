use mathlib.Core.Path.{◌≡◌}
use native.Mathlib.Nat.{le_antisymm}
use Prim.Native.Nat.{ℕ, ◌+◌, ◌^◌, ◌≤◌, ◌<◌}
use native.Mathlib.Omega.{arith}
use Rattle.high_angle.specs.SafetyFactor.{smallest, factor_above}
use Rattle.high_angle.specs.PrivateBounds.{scaled_max}
use Rattle.high_angle.proofs.RootLaws.{power_at_most, smallest_high, smallest_low, smallest_most, smallest_above}
use Rattle.high_angle.proofs.root.smallest_at_least.Goals as goal

module _ (x : ℕ) (h : x ≤ scaled_max) where
  -- a number whose fifth power is below x is below the smallest
  short : (n : ℕ) → n ^ 5 < x → n + 1 ≤ smallest factor_above x
  short n p = omega (arith, smallest_above x factor_above n (omega arith) p)

  -- one whose fifth power is x is the smallest
  met : (n : ℕ) → n ^ 5 ≡ x → n ≡ smallest factor_above x
  met n e =
      le_antisymm (power_at_most n (smallest factor_above x) (omega (arith, smallest_high x factor_above (omega arith))))
      (smallest_low x factor_above n (omega arith))

pub returns-then-from-x : goal.returns-then-from-x
returns-then-from-x c =
    met c.args.x c.requires.1 c.args.from.low (omega arith)

pub overflow_add-high : goal.overflow_add-high
overflow_add-high c = omega (arith, short c.args.x c.requires.1 c.args.from.low (omega arith), smallest_most c.args.x factor_above)

pub loop-power-init : goal.loop-power-init
loop-power-init c = (short c.args.x c.requires.1 c.args.from.low (omega arith), c.args.from.is_above)

pub overflow_add-high-in-loop-power : goal.overflow_add-high-in-loop-power
overflow_add-high-in-loop-power c = omega (arith, smallest_most c.args.x factor_above)

pub fifth-power-requires : goal.fifth-power-requires
fifth-power-requires c = omega (arith, smallest_most c.args.x factor_above)

pub loop-power-smaller : goal.loop-power-smaller
loop-power-smaller c =
    omega (arith, short c.args.x c.requires.1 c.loop-power.high (omega arith))

pub loop-power-preserved : goal.loop-power-preserved
loop-power-preserved c =
    (short c.args.x c.requires.1 c.loop-power.high (omega arith), c.fifth-power.ensures)

pub returns : goal.returns
returns c =
    le_antisymm c.loop-power.invariant.0 (smallest_low c.args.x factor_above c.loop-power.high (omega arith))
