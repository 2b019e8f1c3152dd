-- Document 01, "Footprint refusals": of a map and the marks on it, and of the counts alone.
use Rattle.std.specs.Prelude.{Bool, not, ◌||◌, List, [], ◌∷◌, ℕ, ltb, eqb, length}
use Rattle.arithmetic.specs.Conditions.{any_below}
use Rattle.refusal.specs.Refusals.{Test, ◌when◌}
use Rattle.map.specs.Size.{map_rows, map_cells}
use Rattle.map.specs.Map.{largest_count, wrong_area, Map, count_at, cells_in}

-- "5 the map isn't 4,096 numbers long or the footprint isn't 64"
abbrev pub wrong_counts_length : List ℕ → Bool
wrong_counts_length counts = not (eqb (length counts) map_cells)

abbrev pub wrong_marks_length : List ℕ → Bool
wrong_marks_length marks = not (eqb (length marks) map_rows)

abbrev pub wrong_lengths : List ℕ → List ℕ → Bool
wrong_lengths counts marks = wrong_counts_length counts || wrong_marks_length marks

-- "6 cell area out of range"
abbrev pub wrong_cell_area : Map → Bool
wrong_cell_area map = wrong_area map.cell_area

-- "7 any count, marked or not, above 1,000,000"
abbrev pub above_range : List ℕ → ℕ → Bool
above_range counts place = ltb largest_count (count_at counts place)

abbrev pub wrong_count : List ℕ → Bool
wrong_count counts = any_below (above_range counts) map_cells

-- "8 no bit set"
abbrev pub no_mark : List ℕ → Bool
no_mark marks = eqb (cells_in marks) 0

-- "Footprint refusals", in the order tested
abbrev pub map_tests : Map → List ℕ → List Test
map_tests map marks =
    5 when wrong_lengths map.counts marks
    ∷ 6 when wrong_cell_area map
    ∷ 7 when wrong_count map.counts
    ∷ 8 when no_mark marks
    ∷ []

-- those of the counts alone
abbrev pub counts_tests : List ℕ → List Test
counts_tests counts = 5 when wrong_counts_length counts ∷ 7 when wrong_count counts ∷ []
