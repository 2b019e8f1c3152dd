use native.Mathlib.Omega.{arith}
use Rattle.high_angle.proofs.RootLaws.{power_below}
use Rattle.high_angle.proofs.root.at_most.Goals as goal

pub loop-power-init : goal.loop-power-init
loop-power-init c = (omega arith, c.fifth-power.ensures)

pub overflow_sub-base : goal.overflow_sub-base
overflow_sub-base c = omega (arith, power_below 0 c.loop-power.base (omega arith))

pub loop-power-smaller : goal.loop-power-smaller
loop-power-smaller c = omega (arith, power_below 0 c.loop-power.base (omega arith))

pub loop-power-preserved : goal.loop-power-preserved
loop-power-preserved c = (omega arith, c.fifth-power-in-loop-power.ensures)

pub returns : goal.returns
returns c = omega arith
