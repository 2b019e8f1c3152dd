-- The cases P9 to P11, and the empty cell.
use mathlib.Core.Path.{refl}
use Prim.Native.Nat.{◌*◌}
use native.Mathlib.Omega.{arith}
use borrow.Author.Tests.{lt-ltb}
use Rattle.arithmetic.specs.Each.{Each}
use Rattle.map.specs.TableRow.{table_row}
use Rattle.map.specs.Points.{row_points, RowPointHolds, EmptyCell}

pub row_points_hold : Each RowPointHolds row_points
unfolding table_row
row_points_hold = (refl, (refl, (refl, (refl, (refl, (refl, tt))))))

pub empty_cell : EmptyCell
unfolding table_row
empty_cell area l = simp (lt-ltb 0 (5 * area) (omega arith))
