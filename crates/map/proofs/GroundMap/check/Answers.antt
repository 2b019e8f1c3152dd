use mathlib.Core.Path.{◌≡◌, sym}
use native.Mathlib.Omega.{arith}
use borrow.Author.Tests.{eq-eqb, ne_eqb}
use lib.ListN.{length}
use Rattle.map.specs.Size.{map_cells, map_rows}
use Rattle.map.proofs.GroundMap.check.Goals as goal

-- `map::GroundMap::check` meets its contract.

pub returns-in_default-try_from : goal.returns-in_default-try_from
returns-in_default-try_from c =
    let long : length c.args.self.counts.now ≡ map_cells = omega (arith, c.in-Ok.ensures.1.long) in
    let wrong : length c.args.marks.now ≡ map_rows → ⊥ = c.in_default-try_from.ensures.1 in
    sym (simp (eq-eqb _ _ long, ne_eqb _ _ wrong))
