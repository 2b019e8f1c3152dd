-- The promises of specs/Promises.antt hold.
use mathlib.Core.Path.{◌≡◌, refl, sym, ap, ◌∙◌}
use mathlib.Core.List.{List}
use Prim.Native.Nat.{ℕ, ◌*◌, ◌^◌, ◌≤◌, ◌<◌}
use native.Mathlib.Nat.{le_of_eq, le_trans, le_of_suc-le-suc, mul-le-mul}
use native.Mathlib.Omega.{arith}
use lib.ListN.{get_or}
use Rattle.refusal.proofs.RefusalsHold.{answer_promise}
use Rattle.arithmetic.proofs.SumLaws.{sum_le, sum_mono, max_mono}
use Rattle.map.specs.Size.{map_cells, map_rows}
use Rattle.map.specs.Map.{largest_count, Map, count_at, mark_at}
use Rattle.map.specs.TableRow.{table_row, row_at}
use Rattle.map.specs.Refusals.{map_tests}
use Rattle.footprint.specs.Footprint.{worst_place, people_at, accepted_footprint, footprint_of}
use Rattle.footprint.specs.Promises.{FootprintAnswer, AcceptedInput, FootprintRanges, WorstCell, SetBits, FootprintPromise, Monotone}
use Rattle.footprint.specs.declared.Footprint.{Footprint}
use Rattle.map.proofs.TableRowLaws.{row_mono, row_ge, row_le}
use Rattle.map.proofs.MarkLaws.{mark_lt, cells_are_ones}
use Rattle.map.proofs.TestsPassed.{Passed, passed, counts_small}
use Rattle.footprint.proofs.CellLaws.{marked_le}
use Rattle.footprint.proofs.WorstCellLaws.{worst_lt, worst_marked, none_more, more_than_before, highest_is}

pub answer : (map : Map) (marks : List ℕ) → FootprintAnswer map marks
unfolding footprint_of
answer map marks = answer_promise _ _ _ refl (λ n. refl) (map_tests map marks) refl

-- ---- an input that isn't refused

module _ (map : Map) (marks : List ℕ) (ok : (footprint_of map marks).refusal ≡ 0) where
  found_is : footprint_of map marks ≡ accepted_footprint map marks
  found_is = (answer map marks).if_accepted ok

  known : Passed map marks
  known = passed map marks (((answer map marks).exactly_when 0).0 ok)

  pub accepted : AcceptedInput map marks
  accepted = record {
    counts_length = known.counts_length;
    marks_length = known.marks_length;
    area_ge = λ p. known.area_ge;
    area_le = λ p. known.area_le;
    counts_le = counts_small map.counts known.counts_in;
    answer = found_is;
  }

  -- ---- the worst cell

  worst_place_lem : (footprint_of map marks).place ≡ worst_place map marks
  worst_place_lem = ap (λ (f : Footprint). f.place) found_is

  pub worst_cell : WorstCell map marks
  worst_cell = record {
    marked = rw worst_place_lem (worst_marked map marks known.some_cell);
    largest = λ p l e. rw worst_place_lem (none_more map marks known.some_cell p l e);
    first = λ p l e. rw worst_place_lem (more_than_before map marks known.some_cell p (rw worst_place_lem at l) e);
    row = ap (λ (f : Footprint). f.row) found_is ∙ highest_is map marks known.some_cell ∙ sym (ap (row_at map) worst_place_lem);
  }

  -- ---- ranges

  pub ranges : FootprintRanges map marks
  ranges =
      let people = ap (λ (f : Footprint). f.people) found_is in
      let cells = ap (λ (f : Footprint). f.cells) found_is in
      record {
        row_ge = rw worst_cell.row (row_ge map.cell_area _);
        row_le = rw worst_cell.row (row_le map.cell_area _);
        place_lt = rw worst_place_lem (worst_lt map marks);
        people_le = rw people (sum_le (people_at map.counts marks) largest_count map_cells
            (λ p l. le_trans (marked_le (mark_at marks p) (count_at map.counts p) (mark_lt marks p)) (counts_small map.counts known.counts_in p l)));
        cells_ge = rw cells known.some_cell;
        cells_le = rw cells (omega (arith, sum_le (mark_at marks) 1 map_cells (λ p l. le_of_suc-le-suc (mark_lt marks p))));
      }

  -- ---- set bits

  pub set_bits : ((r : ℕ) → r < map_rows → get_or marks r 0 < 2 ^ 64) → SetBits map marks
  set_bits small = ap (λ (f : Footprint). f.cells) found_is ∙ cells_are_ones marks small

pub footprint_promise : (map : Map) (marks : List ℕ) → FootprintPromise map marks
footprint_promise map marks = record {
  answer = answer map marks;
  accepted = accepted map marks;
  ranges = ranges map marks;
  worst = worst_cell map marks;
  set_bits = set_bits map marks;
}

-- ---- two inputs

pub monotone : Monotone
monotone map marks map' marks' ok ok' n =
    let a = found_is map marks ok in
    let a' = found_is map' marks' ok' in
    record {
      row_le = rw (a, a')
          (max_mono (λ p. mark_at marks p * row_at map p) (λ p. mark_at marks' p * row_at map' p) map_cells
          (λ p l. mul-le-mul (n.marks_le p l) (row_at_le p l)));
      people_le = rw (a, a')
          (sum_mono (people_at map.counts marks) (people_at map'.counts marks') map_cells
          (λ p l. mul-le-mul (n.marks_le p l) (n.counts_le p l)));
      cells_le = rw (a, a') (sum_mono (mark_at marks) (mark_at marks') map_cells n.marks_le);
    }
  where
    row_at_le : (p : ℕ) → p < map_cells → row_at map p ≤ row_at map' p
    row_at_le p l =
        le_trans (row_mono map.cell_area (count_at map.counts p) (count_at map'.counts p) (n.counts_le p l))
        (le_of_eq (ap (table_row (count_at map'.counts p)) (n.same_area p)))
