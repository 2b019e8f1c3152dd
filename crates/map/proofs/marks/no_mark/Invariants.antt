-- `map::marks::no_mark` meets its contract. The loop's invariant: the bitwise or of the rows passed.
use mathlib.Core.Path.{◌≡◌}
use lib.ListN.{get_or}
use Rattle.arithmetic.proofs.OrLaws.{or_below}
use Rattle.map.proofs.marks.no_mark.Given as goal

abbrev pub invariant-loop-row : goal.invariant-loop-row
invariant-loop-row l = l.all ≡ or_below (λ i. get_or l.marks i 0) l.row-index
