-- `map::counts::wrong_count` meets its contract. The loop's invariant: the test of the map rows passed.
use mathlib.Core.Path.{◌≡◌}
use Prim.Native.Nat.{◌*◌}
use Rattle.arithmetic.specs.Conditions.{any_below}
use Rattle.map.specs.Size.{map_columns}
use Rattle.map.specs.Refusals.{above_range}
use Rattle.map.proofs.counts.wrong_count.Given as goal

abbrev pub invariant-loop-row : goal.invariant-loop-row
invariant-loop-row l = l.any ≡ any_below (above_range l.counts) (map_columns * l.row-index)
