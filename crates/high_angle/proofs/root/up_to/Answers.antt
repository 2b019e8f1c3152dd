use mathlib.Core.Path.{◌≡◌}
use native.Mathlib.Nat.{le_antisymm}
use Prim.Native.Nat.{ℕ, ◌+◌, ◌^◌, ◌≤◌, ◌<◌}
use native.Mathlib.Omega.{arith}
use Rattle.high_angle.specs.SafetyFactor.{largest, factor_above}
use Rattle.high_angle.specs.PrivateBounds.{scaled_max}
use Rattle.high_angle.proofs.RootLaws.{power_at_most, power_below, largest_low, largest_high, largest_most}
use Rattle.high_angle.proofs.root.up_to.Goals as goal

module _ (x : ℕ) (h : x ≤ scaled_max) where
  -- a number whose fifth power is at most x is at most the largest
  reached : (n : ℕ) → n ^ 5 ≤ x → n ≤ largest factor_above x
  reached n p = largest_high x factor_above n (power_at_most n factor_above (omega arith)) p

  -- and where the next one's is above x, it is the largest
  found : (n : ℕ) → n ≤ largest factor_above x → x < (n + 1) ^ 5 → n ≡ largest factor_above x
  found n l u =
      le_antisymm l (omega (arith, power_below (largest factor_above x) (n + 1) (omega (arith, largest_low x factor_above))))

pub overflow_add-low : goal.overflow_add-low
overflow_add-low c = omega (arith, reached c.args.x c.requires.1 c.args.from.base (omega arith), largest_most c.args.x factor_above)

pub fifth-above-requires : goal.fifth-above-requires
fifth-above-requires c = omega (arith, reached c.args.x c.requires.1 c.args.from.base (omega arith), largest_most c.args.x factor_above)

pub loop-above-init : goal.loop-above-init
loop-above-init c =
    (reached c.args.x c.requires.1 c.args.from.base (omega arith), c.args.from.is_fifth, c.fifth-above.ensures)

pub overflow_add-low-in-loop-above : goal.overflow_add-low-in-loop-above
overflow_add-low-in-loop-above c = omega (arith, largest_most c.args.x factor_above)

pub overflow_add-low-in-loop-above-2 : goal.overflow_add-low-in-loop-above-2
overflow_add-low-in-loop-above-2 c = omega (arith, largest_most c.args.x factor_above)

pub fifth-above-requires-in-loop-above : goal.fifth-above-requires-in-loop-above
fifth-above-requires-in-loop-above c = omega (arith, largest_most c.args.x factor_above)

pub loop-above-smaller : goal.loop-above-smaller
loop-above-smaller c =
    omega (arith, reached c.args.x c.requires.1 (c.loop-above.low + 1) (omega arith))

pub loop-above-preserved : goal.loop-above-preserved
loop-above-preserved c =
    (reached c.args.x c.requires.1 (c.loop-above.low + 1) (omega arith), c.loop-above.invariant.2, c.fifth-above-in-loop-above.ensures)

pub returns : goal.returns
returns c =
    found c.args.x c.requires.1 c.loop-above.low c.loop-above.invariant.0 (omega arith)
