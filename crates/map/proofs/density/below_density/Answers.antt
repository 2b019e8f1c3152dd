use Prim.Native.Nat.{◌≤◌}
use native.Mathlib.Nat.{mul-le-mul}
use native.Mathlib.Omega.{arith}
use Rattle.map.proofs.density.below_density.Goals as goal

-- `map::density::below_density` meets its contract.

-- two numbers of 32 bits have a product of 64
pub overflow_mul-result-2 : goal.overflow_mul-result-2
overflow_mul-result-2 c =
    let density : c.args.density ≤ 4294967295 = omega arith in
    let area : c.args.area ≤ 4294967295 = omega arith in
    omega (arith, mul-le-mul density area)
