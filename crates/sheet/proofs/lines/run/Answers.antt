use native.Mathlib.Omega.{arith}
use native.Mathlib.Nat.{mul-le-mul}
use Rattle.sheet.specs.Lines.{run_of}
use Rattle.sheet.proofs.lines.run.Goals as goal

-- `run` gives line 2.

pub overflow_mul-low : goal.overflow_mul-low
overflow_mul-low c = omega (arith, mul-le-mul c.requires c.requires)

pub overflow_mul-low-2 : goal.overflow_mul-low-2
overflow_mul-low-2 c = omega (arith, mul-le-mul c.requires c.requires)

pub overflow_mul-high : goal.overflow_mul-high
overflow_mul-high c = omega (arith, mul-le-mul c.requires c.requires)

pub overflow_mul-high-2 : goal.overflow_mul-high-2
overflow_mul-high-2 c = omega (arith, mul-le-mul c.requires c.requires)

pub rounded-requires : goal.rounded-requires
rounded-requires c = omega (arith, mul-le-mul c.requires c.requires)

pub returns : goal.returns
unfolding run_of
returns c = c.rounded.ensures
