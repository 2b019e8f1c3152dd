use mathlib.Core.Path.{◌≡◌}
use Prim.Native.Nat.{◌≤◌}
use Rattle.columns.specs.Column.{column_of}
use Rattle.columns.proofs.ColumnFromFirst.{column_from, flagged_to}
use Rattle.columns.proofs.column_and_flag.Given as goal

-- `column_and_flag` finds the first limit that is at least the high area.

abbrev pub invariant-loop-k : goal.invariant-loop-k
invariant-loop-k l =
    (l.k ≤ 5) × (column_from l.area.high l.k ≡ column_of l.area.high) × (l.flagged_below ≡ flagged_to l.k)
