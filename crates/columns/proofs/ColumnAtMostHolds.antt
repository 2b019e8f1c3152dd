-- The column goes with the high area.
use Prim.Native.Nat.{ℕ}
use native.Mathlib.Nat.{le_trans}
use native.Mathlib.Omega.{arith}
use lib.Dec.{leb, lit<}
use borrow.Author.Tests.{leb-true, le-leb}
use Rattle.columns.specs.Column.{limits, limit_at, last_limit, column_by, column_of}
use Rattle.columns.specs.ColumnAtMost.{ColumnAtMost}
use Rattle.columns.proofs.FirstInTable.{PassesOn, first_at_most}
use Rattle.columns.proofs.LimitLaws.{limit_mono}
use Rattle.columns.proofs.ColumnLaws.{column_in_table}

-- an area that is at most a limit is at most each one after it
under_on : (high : ℕ) → PassesOn 0 (leb high) limits
under_on high i k h l t = le-leb high (limit_at k) (le_trans (leb-true high (limit_at i) t) (limit_mono i k h l))

pub column_at_most : ColumnAtMost
unfolding column_of column_by
column_at_most high n l =
    let by_first = first_at_most 0 (leb high) limits (under_on high) n l in (
      λ h. leb-true high (limit_at n) (by_first.0 ((column_in_table (leb high) (le-leb high last_limit h.0)).0, h.1)),
      λ h. (le_trans h (limit_mono n 4 (omega arith) (lit< tt)), (by_first.1 (le-leb high (limit_at n) h)).1),
    )
