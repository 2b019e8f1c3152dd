-- `MapRow::tally` meets its contract. The loop's invariant: each lane over the steps passed.
use mathlib.Core.Path.{◌≡◌}
use mathlib.Core.List.{[], ◌∷◌}
use Rattle.footprint.proofs.RowLaws.{lane_of}
use Rattle.footprint.proofs.row.MapRow.tally.Given as goal

abbrev pub invariant-loop-k : goal.invariant-loop-k
invariant-loop-k l =
    let lane = lane_of l.self.counts.now l.self.bits in
    l.lanes ≡ lane 0 l.k ∷ lane 1 l.k ∷ lane 2 l.k ∷ lane 3 l.k ∷ []
