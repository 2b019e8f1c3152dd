-- Document 02, item 3: "judge the table row at the end, from the largest count".
use Rattle.std.specs.Prelude.{◌≡◌, List, ℕ, ◌<◌}
use Rattle.arithmetic.specs.SumsAndMaxima.{max_below}
use Rattle.map.specs.Size.{map_cells}
use Rattle.map.specs.Map.{Map, cells_in}
use Rattle.map.specs.TableRow.{table_row}
use Rattle.footprint.specs.Footprint.{highest_row, people_at}

-- "the largest marked count": a cell that isn't marked counts 0
abbrev pub largest_marked_count : List ℕ → List ℕ → ℕ
largest_marked_count counts marks = max_below (people_at counts marks) map_cells

-- "the row of the largest marked count is the highest row among marked cells": for every map, cell area and footprint, refused or not,
-- as long as a cell is marked; where none is, there is no such count
abbrev pub RowOfLargestCount : Type 0
RowOfLargestCount = (map : Map) (marks : List ℕ) → 0 < cells_in marks
    → table_row (largest_marked_count map.counts marks) map.cell_area ≡ highest_row map marks
