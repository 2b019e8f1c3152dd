-- Document 01, "The footprint on the map": a map, and the marks of a footprint on it.
use Rattle.std.specs.Prelude.{Bool, List, ℕ, ◌-◌, ◌/◌, ◌%◌, ◌^◌, eqb, get_or}
use Rattle.arithmetic.specs.Conditions.{outside}
use Rattle.arithmetic.specs.SumsAndMaxima.{sum_below}
use Rattle.map.specs.Size.{map_columns, map_cells}

-- "one head count (0 to 1,000,000) a cell"
abbrev pub largest_count : ℕ
largest_count = 1000000

-- "one cell area s for all, 100 to 25,000,000 square metres"
abbrev pub least_area : ℕ
least_area = 100

abbrev pub largest_area : ℕ
largest_area = 25000000

-- out of that range
abbrev pub wrong_area : ℕ → Bool
wrong_area area = outside least_area largest_area area

-- a map: its counts and the cell area; the footprint's marks are no part of it
pub record Map : Type 0 where
  pub counts : List ℕ
  pub cell_area : ℕ

-- a place is 64 × row + column
abbrev pub count_at : List ℕ → ℕ → ℕ
count_at counts place = get_or counts place 0

-- "the highest bit of each is the westernmost cell, and a set bit marks a cell as flown over": 1 where a column's bit is set, else 0
abbrev pub bit_at : ℕ → ℕ → ℕ
bit_at bits column = bits / 2 ^ (map_columns - 1 - column) % 2

-- 1 where the cell at a place is marked, else 0
abbrev pub mark_at : List ℕ → ℕ → ℕ
mark_at marks place = bit_at (get_or marks (place / map_columns) 0) (place % map_columns)

-- "a set bit marks a cell as flown over"
abbrev pub marked : List ℕ → ℕ → Bool
marked marks place = eqb (mark_at marks place) 1

-- "one cell area s for all"
abbrev pub area_at : Map → ℕ → ℕ
area_at map place = map.cell_area

-- "the number of marked cells", "defined over all 4,096 places"
abbrev pub cells_in : List ℕ → ℕ
cells_in marks = sum_below (mark_at marks) map_cells
