-- What is promised of every footprint's answer, beyond its definition. The proofs are in proofs/PromisesHold.antt.
use Rattle.std.specs.Prelude.{◌≡◌, List, ℕ, ◌*◌, ◌^◌, ◌≤◌, ◌<◌, length, get_or}
use Rattle.std.specs.Int.Count.{ones}
use Rattle.refusal.specs.Refusals.{AnswerPromise}
use Rattle.arithmetic.specs.SumsAndMaxima.{sum_below}
use Rattle.map.specs.Size.{map_cells, map_rows}
use Rattle.map.specs.Map.{largest_count, least_area, largest_area, Map, count_at, mark_at, area_at}
use Rattle.map.specs.TableRow.{row_at}
use Rattle.map.specs.Refusals.{map_tests}
use Rattle.footprint.specs.Footprint.{refused_footprint, accepted_footprint, footprint_of}
use Rattle.footprint.specs.declared.Footprint.{Footprint}

-- each refusal exactly when its test is the first that holds; it is 0 or a number of the footprint's list; "After a refusal every number is zero"
abbrev pub FootprintAnswer : Map → List ℕ → Type 0
FootprintAnswer map marks =
    AnswerPromise (λ (f : Footprint). f.refusal) (map_tests map marks) (accepted_footprint map marks) refused_footprint (footprint_of map marks)

-- what is known of an input that isn't refused
pub record AcceptedInput (map : Map) (marks : List ℕ) : Type 0 where
  pub counts_length : length map.counts ≡ map_cells
  pub marks_length : length marks ≡ map_rows
  pub area_ge : (p : ℕ) → least_area ≤ area_at map p
  pub area_le : (p : ℕ) → area_at map p ≤ largest_area
  pub counts_le : (p : ℕ) → p < map_cells → count_at map.counts p ≤ largest_count
  pub answer : footprint_of map marks ≡ accepted_footprint map marks

-- the ranges of an answer that isn't refused
pub record FootprintRanges (map : Map) (marks : List ℕ) : Type 0 where
  pub row_ge : 2 ≤ (footprint_of map marks).row
  pub row_le : (footprint_of map marks).row ≤ 7
  pub place_lt : (footprint_of map marks).place < map_cells
  pub people_le : (footprint_of map marks).people ≤ map_cells * largest_count
  pub cells_ge : 1 ≤ (footprint_of map marks).cells
  pub cells_le : (footprint_of map marks).cells ≤ map_cells

-- the place is "the first marked cell with the largest count", and the highest row among marked cells is that cell's row
pub record WorstCell (map : Map) (marks : List ℕ) : Type 0 where
  pub marked : mark_at marks (footprint_of map marks).place ≡ 1
  pub largest : (p : ℕ) → p < map_cells → mark_at marks p ≡ 1
      → count_at map.counts p ≤ count_at map.counts (footprint_of map marks).place
  pub first : (p : ℕ) → p < (footprint_of map marks).place → mark_at marks p ≡ 1
      → count_at map.counts p < count_at map.counts (footprint_of map marks).place
  pub row : (footprint_of map marks).row ≡ row_at map (footprint_of map marks).place

-- "the number of marked cells, which is the number of set bits"
abbrev pub SetBits : Map → List ℕ → Type 0
SetBits map marks = (footprint_of map marks).cells ≡ sum_below (λ r. ones (get_or marks r 0)) map_rows

-- all of it, of every input
pub record FootprintPromise (map : Map) (marks : List ℕ) : Type 0 where
  pub answer : FootprintAnswer map marks
  pub accepted : (footprint_of map marks).refusal ≡ 0 → AcceptedInput map marks
  pub ranges : (footprint_of map marks).refusal ≡ 0 → FootprintRanges map marks
  pub worst : (footprint_of map marks).refusal ≡ 0 → WorstCell map marks
  pub set_bits : (footprint_of map marks).refusal ≡ 0 → ((r : ℕ) → r < map_rows → get_or marks r 0 < 2 ^ 64)
      → SetBits map marks

-- the cells have the same area, no count is lowered and no mark is taken away
pub record NoLess (map : Map) (marks : List ℕ) (map' : Map) (marks' : List ℕ) : Type 0 where
  pub same_area : (p : ℕ) → area_at map p ≡ area_at map' p
  pub counts_le : (p : ℕ) → p < map_cells → count_at map.counts p ≤ count_at map'.counts p
  pub marks_le : (p : ℕ) → p < map_cells → mark_at marks p ≤ mark_at marks' p

-- a count raised or a cell marked in addition lowers neither the table row nor the people nor the number of cells
pub record NotLowered (map : Map) (marks : List ℕ) (map' : Map) (marks' : List ℕ) : Type 0 where
  pub row_le : (footprint_of map marks).row ≤ (footprint_of map' marks').row
  pub people_le : (footprint_of map marks).people ≤ (footprint_of map' marks').people
  pub cells_le : (footprint_of map marks).cells ≤ (footprint_of map' marks').cells

abbrev pub Monotone : Type 0
Monotone = (map : Map) (marks : List ℕ) (map' : Map) (marks' : List ℕ) → (footprint_of map marks).refusal ≡ 0
    → (footprint_of map' marks').refusal ≡ 0 → NoLess map marks map' marks' → NotLowered map marks map' marks'
