use mathlib.Core.Path.{ap}
use Prim.Native.Nat.{ℕ, ◌*◌, ◌≤◌}
use native.Mathlib.Nat.{mul-le-mul, div-le_self}
use native.Mathlib.Omega.{arith}
use Rattle.arithmetic.proofs.RoundingLaws.{up_exact, up_inexact}
use Rattle.columns.specs.Bracket.{bracket}
use Rattle.sheet.specs.Ranges.{mass_max}
use Rattle.high_angle.specs.HighAngle.{energy_num, energy_den, joules_of}
use Rattle.high_angle.proofs.factor.joules.Goals as goal

-- `joules` rounds the energy down and up by one division.

energy_fits : (m : ℕ) → m ≤ mass_max → m * m ≤ 25000000 * 25000000
energy_fits m h = mul-le-mul h h

pub overflow_mul-energy : goal.overflow_mul-energy
overflow_mul-energy c = omega (arith, energy_fits c.args.mass c.requires.2)

pub overflow_mul-energy-2 : goal.overflow_mul-energy-2
overflow_mul-energy-2 c = omega (arith, energy_fits c.args.mass c.requires.2)

pub returns-then-energy-divisor-eq0 : goal.returns-then-energy-divisor-eq0
unfolding joules_of
returns-then-energy-divisor-eq0 c = ap (bracket _) (up_exact _ _ (omega arith) c.if-energy-divisor-eq0.true)

pub overflow_add-result : goal.overflow_add-result
overflow_add-result c =
    omega (arith, energy_fits c.args.mass c.requires.2, div-le_self (energy_num c.args.mass) (energy_den c.args.frontal))

pub returns : goal.returns
unfolding joules_of
returns c = ap (bracket _) (up_inexact _ _ (omega arith) c.if-energy-divisor-eq0.false)
