-- The cases P9 to P11 of document 01, and the empty cell.
use Rattle.std.specs.Prelude.{◌≡◌, List, [], ◌∷◌, ℕ, ◌≤◌}
use Rattle.map.specs.Map.{least_area}
use Rattle.map.specs.TableRow.{table_row}

pub record RowPoint : Type 0 where
  pub people : ℕ
  pub area : ℕ
  pub row : ℕ

-- "P9 s 1,000,000: 4 people row 2, 5 people row 3; P10 same s: 49,999 row 6, 50,000 row 7; P11 s 10,000: 1 person row 4, 8 people row 5."
abbrev pub row_points : List RowPoint
row_points =
    record { people = 4; area = 1000000; row = 2 }
    ∷ record { people = 5; area = 1000000; row = 3 }
    ∷ record { people = 49999; area = 1000000; row = 6 }
    ∷ record { people = 50000; area = 1000000; row = 7 }
    ∷ record { people = 1; area = 10000; row = 4 }
    ∷ record { people = 8; area = 10000; row = 5 }
    ∷ []

abbrev pub RowPointHolds : RowPoint → Type 0
RowPointHolds p = table_row p.people p.area ≡ p.row

-- "An empty cell is row 2."
abbrev pub EmptyCell : Type 0
EmptyCell = (area : ℕ) → least_area ≤ area → table_row 0 area ≡ 2
