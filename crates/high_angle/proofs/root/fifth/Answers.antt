use native.Mathlib.Nat.{pow-le-pow_left}
use native.Mathlib.Omega.{arith}
use Rattle.high_angle.specs.PrivateBounds.{base_max}
use Rattle.high_angle.proofs.root.fifth.Goals as goal

-- `fifth` gives the fifth power.

pub pow-requires : goal.pow-requires
pow-requires c = omega (arith, pow-le-pow_left {n = c.args.f} {m = base_max} c.requires 5)
