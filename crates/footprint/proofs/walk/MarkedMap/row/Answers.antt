use mathlib.Core.Path.{ap}
use mathlib.Core.List.{List}
use Prim.Native.Nat.{ℕ}
use native.Mathlib.Omega.{arith}
use Rattle.map.specs.Map.{count_at}
use Rattle.map.proofs.RowLaws.{row_is_part}
use Rattle.footprint.proofs.WalkLaws.{known, lent_small}
use Rattle.footprint.proofs.walk.MarkedMap.row.Goals as goal

-- `MarkedMap::row` meets its contract.

pub invariant_of-result : goal.invariant_of-result
invariant_of-result c =
    let self = c.args.self in
    let passed = known self in
    let is = row_is_part self.map.counts.now passed.counts_length c.as_chunks.ensures.front c.args.r c.requires in
    record { in_range = λ i l. omega (arith, ap (λ (row : List ℕ). count_at row i) is, lent_small self.map.counts.now self.marks.now c.args.r c.requires passed.counts_in i l) }

pub returns-clause-counts : goal.returns-clause-counts
returns-clause-counts c =
    let self = c.args.self in
    let passed = known self in
    row_is_part self.map.counts.now passed.counts_length c.as_chunks.ensures.front c.args.r c.requires
