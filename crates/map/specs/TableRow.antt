-- Document 01, "A cell's table row".
use Rattle.std.specs.Prelude.{Bool, cond, ◌||◌, ℕ, ◌*◌, ltb, eqb, Option, Some, None}
use Rattle.map.specs.Map.{largest_count, Map, count_at, area_at, wrong_area}

-- in square metres
abbrev pub square_kilometre : ℕ
square_kilometre = 1000000

-- fewer people per square kilometre than a density, with nothing divided: "people × 1,000,000 is less than 5 × s"
abbrev pub below_density : ℕ → ℕ → ℕ → Bool
below_density people area density = ltb (people * square_kilometre) (density * area)

-- "A cell's table row: 2 when people × 1,000,000 is less than 5 × s; else 3 for 50, 4 for 500, 5 for 5,000, 6 for 50,000; else 7."
unfoldable pub table_row : ℕ → ℕ → ℕ
table_row people area =
    cond (below_density people area 5) 2
    (cond (below_density people area 50) 3
    (cond (below_density people area 500) 4
    (cond (below_density people area 5000) 5
    (cond (below_density people area 50000) 6 7))))

-- the table row where both numbers are in their ranges, otherwise 0
unfoldable pub table_row_or_zero : ℕ → ℕ → ℕ
table_row_or_zero people area = cond (ltb largest_count people || wrong_area area) 0 (table_row people area)

-- a table row, none where 0 stands for it
abbrev pub row_unless_zero : ℕ → Option ℕ
row_unless_zero row = cond (eqb row 0) None (Some row)

-- the table row of the cell at a place
abbrev pub row_at : Map → ℕ → ℕ
row_at map place = table_row (count_at map.counts place) (area_at map place)
