-- The row of the largest marked count is the highest row among marked cells: that count is the worst cell's.
use mathlib.Core.Path.{◌≡◌, sym, ap, ◌∙◌}
use mathlib.Core.List.{List}
use Prim.Native.Nat.{ℕ, ◌<◌}
use native.Mathlib.Omega.{arith}
use Rattle.map.specs.Size.{map_cells}
use Rattle.map.specs.Map.{Map, count_at, mark_at, cells_in}
use Rattle.map.specs.TableRow.{table_row}
use Rattle.footprint.specs.Footprint.{worst_place}
use Rattle.footprint.specs.RowOfLargestCount.{largest_marked_count, RowOfLargestCount}
use Rattle.map.proofs.MarkLaws.{mark_lt}
use Rattle.footprint.proofs.CellLaws.{max_of_marked}
use Rattle.footprint.proofs.WorstCellLaws.{worst_lt, worst_marked, none_more, highest_is}

-- by omega, which refuses another count as a number that differs
largest_is : (map : Map) (marks : List ℕ) → 0 < cells_in marks → largest_marked_count map.counts marks ≡ count_at map.counts (worst_place map marks)
largest_is map marks some =
    omega (
      arith,
      max_of_marked (mark_at marks) (count_at map.counts) (mark_lt marks) map_cells (worst_lt map marks) (worst_marked map marks some) (none_more map marks some),
    )

pub row_of_largest_count : RowOfLargestCount
row_of_largest_count map marks some = ap (λ (n : ℕ). table_row n map.cell_area) (largest_is map marks some) ∙ sym (highest_is map marks some)
