use mathlib.Core.Path.{ap₂, ◌∙◌}
use Rattle.arithmetic.specs.SumsAndMaxima.{sum_below, first_best}
use Rattle.footprint.specs.PrivateWalk.{row_walk}
use Rattle.footprint.proofs.WalkLaws as law
use Rattle.footprint.proofs.walk.MarkedMap.walk.Goals as goal

pub loop-r-init : goal.loop-r-init
unfolding sum_below first_best
loop-r-init c = let d = c.default-w.ensures in λ i. record { worst = d.0 i; row = d.1.0 i; people = d.1.1.0 i; cells = d.1.1.1 i }

pub with_row-w-requires : goal.with_row-w-requires
with_row-w-requires c =
    let self = c.args.self in
    law.map_fits self.map.counts.now self.marks.now (law.known self).counts_in c.loop-r.r c.loop-r-test.true c.loop-r.invariant
    (c.walk.ensures ∙ ap₂ row_walk c.row.ensures.counts c.row.ensures.bits)

pub loop-r-preserved : goal.loop-r-preserved
loop-r-preserved c =
    let self = c.args.self in
    c.with_row-w.ensures
    ∙ law.map_next self.map.counts.now self.marks.now (law.known self).counts_in c.loop-r.r c.loop-r-test.true c.loop-r.invariant
    (c.walk.ensures ∙ ap₂ row_walk c.row.ensures.counts c.row.ensures.bits)
