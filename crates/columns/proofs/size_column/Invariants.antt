use mathlib.Core.Path.{◌≡◌}
use Rattle.columns.proofs.SizePairsWalked.{Walked}
use Rattle.columns.proofs.size_column.Given as goal

-- `size_column` finds the first pair that is large enough, from the last to the first.

abbrev pub invariant-loop-k : goal.invariant-loop-k
invariant-loop-k l = (l.k-iterator.iter.count ≡ 0) × Walked l.dimension l.speed l.k-iterator.iter.iter.rest.now l.column
