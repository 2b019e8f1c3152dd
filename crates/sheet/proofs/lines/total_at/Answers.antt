-- `total_at` gives T at one end of the lines.
use native.Mathlib.Omega.{arith}
use native.Mathlib.Nat.{mul-le-mul, add-le-add}
use Rattle.sheet.proofs.lines.total_at.Goals as goal

pub overflow_mul-result-2 : goal.overflow_mul-result-2
overflow_mul-result-2 c = omega (arith, mul-le-mul c.requires.0 (add-le-add c.requires.1 c.requires.2), mul-le-mul c.requires.0 c.requires.0)
