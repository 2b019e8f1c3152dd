use Prim.Native.Nat.{ℕ, ◌-◌, ◌*◌, ◌/◌, ◌≤◌}
use native.Mathlib.Nat.{mul-le-mul}
use native.Mathlib.Omega.{arith}
use Rattle.high_angle.proofs.root.on_arc.Goals as goal

-- `on_arc` stays within 64 bits, and its arc's end is no larger than the largest base.

-- with an arc's rise and bend, so far up
module _ (up rise bend : ℕ) (u : up ≤ 536870911) (r : rise ≤ 536870912) (b : bend ≤ rise) where
  bend_fits : up * bend ≤ 536870911 * rise
  bend_fits = mul-le-mul u b

  taken_off : up * bend / 536870912 ≤ rise
  taken_off = within (up * bend) bend_fits
    where
      within : (n : ℕ) → n ≤ 536870911 * rise → n / 536870912 ≤ rise
      within n h = omega arith

  rise_fits : up * (rise - up * bend / 536870912) ≤ 536870911 * rise
  rise_fits = mul-le-mul u (less (up * bend / 536870912))
    where
      less : (n : ℕ) → rise - n ≤ rise
      less n = omega arith

pub overflow_mul-result : goal.overflow_mul-result
overflow_mul-result c =
    omega (arith, bend_fits c.args.up c.args.arc.rise c.args.arc.bend (omega arith) c.args.arc.rise_most c.args.arc.bend_most)

pub overflow_sub-result : goal.overflow_sub-result
overflow_sub-result c =
    taken_off c.args.up c.args.arc.rise c.args.arc.bend (omega arith) c.args.arc.rise_most c.args.arc.bend_most

pub overflow_mul-result-2 : goal.overflow_mul-result-2
overflow_mul-result-2 c =
    omega (arith, rise_fits c.args.up c.args.arc.rise c.args.arc.bend (omega arith) c.args.arc.rise_most c.args.arc.bend_most)

pub overflow_add-result : goal.overflow_add-result
overflow_add-result c =
    omega (arith, rise_fits c.args.up c.args.arc.rise c.args.arc.bend (omega arith) c.args.arc.rise_most c.args.arc.bend_most)

pub returns : goal.returns
returns c =
    omega (arith, rise_fits c.args.up c.args.arc.rise c.args.arc.bend (omega arith) c.args.arc.rise_most c.args.arc.bend_most)
