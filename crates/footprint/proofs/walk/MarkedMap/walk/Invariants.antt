-- `MarkedMap::walk` meets its contract. The loop's invariant: the walk over the rows passed.
use mathlib.Core.Path.{◌≡◌}
use Rattle.footprint.specs.PrivateWalk.{map_walk}
use Rattle.footprint.proofs.walk.MarkedMap.walk.Given as goal

abbrev pub invariant-loop-r : goal.invariant-loop-r
invariant-loop-r l = l.w ≡ map_walk l.self.map.counts.now l.self.marks.now l.r
