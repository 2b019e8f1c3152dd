-- `map::counts::wrong_row` meets its contract. The loop's invariant: the largest of the counts passed.
use mathlib.Core.Path.{◌≡◌}
use Rattle.arithmetic.specs.SumsAndMaxima.{max_below}
use Rattle.map.specs.Map.{count_at}
use Rattle.map.proofs.counts.wrong_row.Given as goal

abbrev pub invariant-loop-count : goal.invariant-loop-count
invariant-loop-count l = l.most ≡ max_below (count_at l.counts) l.count-index
