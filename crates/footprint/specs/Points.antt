-- The footprint of P16.
use Rattle.std.specs.Prelude.{◌≡◌, List, ℕ, suc, ◌^◌, length, get_or}
use Rattle.map.specs.Size.{map_cells, map_rows}
use Rattle.map.specs.Map.{count_at}
use Rattle.footprint.specs.Footprint.{footprint_of}

-- P16: "first footprint line 8000000000000000, first count 8, all else zero", the zero cells described by rule
pub record P16Map (counts marks : List ℕ) : Type 0 where
  pub counts_length : length counts ≡ map_cells
  pub marks_length : length marks ≡ map_rows
  pub first_count : count_at counts 0 ≡ 8
  pub other_counts : (p : ℕ) → count_at counts (suc p) ≡ 0
  pub first_marks : get_or marks 0 0 ≡ 2 ^ 63
  pub other_marks : (r : ℕ) → get_or marks (suc r) 0 ≡ 0

abbrev pub P16Footprint : Type 0
P16Footprint = (counts marks : List ℕ) → P16Map counts marks
    → footprint_of (record { counts = counts; cell_area = 10000 }) marks ≡ record { refusal = 0; row = 5; place = 0; people = 8; cells = 1 }
