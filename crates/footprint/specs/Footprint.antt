-- Document 01, "The footprint on the map": "The answer".
use Rattle.std.specs.Prelude.{Bool, not, ◌||◌, ◌&&◌, List, ℕ, ◌*◌, ltb, Result}
use Rattle.refusal.specs.Numbers.{answer_as}
use Rattle.refusal.specs.Refusals.{answered}
use Rattle.refusal.specs.declared.Refusal.{Refusal}
use Rattle.arithmetic.specs.SumsAndMaxima.{sum_below, max_below, first_best}
use Rattle.map.specs.Size.{map_cells}
use Rattle.map.specs.Map.{Map, count_at, mark_at, marked, cells_in}
use Rattle.map.specs.TableRow.{row_at}
use Rattle.map.specs.Refusals.{map_tests}
use Rattle.footprint.specs.declared.Footprint.{Footprint}
use Rattle.footprint.specs.declared.MarkedCells.{MarkedCells}

-- "the highest row among marked cells"
abbrev pub highest_row : Map → List ℕ → ℕ
highest_row map marks = max_below (λ p. mark_at marks p * row_at map p) map_cells

-- the cell q has more people than the cell p
abbrev pub more_people : Map → ℕ → ℕ → Bool
more_people map q p = ltb (count_at map.counts p) (count_at map.counts q)

-- the cell q is worse than the cell p: it is marked, and p isn't or has fewer people
abbrev pub worse : Map → List ℕ → ℕ → ℕ → Bool
worse map marks q p = marked marks q && (not (marked marks p) || more_people map q p)

-- "the place (64 × row + column) of the first marked cell with the largest count": a cell is taken where it is worse than the worst before it
abbrev pub worst_place : Map → List ℕ → ℕ
worst_place map marks = first_best (worse map marks) map_cells

-- "the sum of people in marked cells", "defined over all 4,096 places"
abbrev pub people_at : List ℕ → List ℕ → ℕ → ℕ
people_at counts marks p = mark_at marks p * count_at counts p

abbrev pub people_in : List ℕ → List ℕ → ℕ
people_in counts marks = sum_below (people_at counts marks) map_cells

-- "After a refusal every number is zero"
abbrev pub refused_footprint : ℕ → Footprint
refused_footprint n = record { refusal = n; row = 0; place = 0; people = 0; cells = 0 }

-- "The answer"
abbrev pub accepted_footprint : Map → List ℕ → Footprint
accepted_footprint map marks = record {
  refusal = 0;
  row = highest_row map marks;
  place = worst_place map marks;
  people = people_in map.counts marks;
  cells = cells_in marks;
}

-- what an answer of the code stands for: its numbers where it is accepted
abbrev pub accepted_cells : MarkedCells → Footprint
accepted_cells c = record { refusal = 0; row = c.row; place = c.place; people = c.people; cells = c.cells }

-- "When an answer is an enum, a definition tells you this paper's number and values for each of its cases."
abbrev pub footprint_answer : Result MarkedCells Refusal → Footprint
footprint_answer = answer_as accepted_cells refused_footprint

-- the footprint on a map, or its refusal
unfoldable pub footprint_of : Map → List ℕ → Footprint
footprint_of map marks = answered (map_tests map marks) (accepted_footprint map marks) refused_footprint
