-- The size of a map: "A map is 64 rows of 64 cells".
use Rattle.std.specs.Prelude.{ℕ, ◌*◌}

abbrev pub map_rows : ℕ
map_rows = 64

abbrev pub map_columns : ℕ
map_columns = 64

abbrev pub map_cells : ℕ
map_cells = map_rows * map_columns
