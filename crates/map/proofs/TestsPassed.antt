-- What is known of a map and the marks on it that passed the tests of their refusals.
use mathlib.Core.Path.{◌≡◌, refl, sym, ◌∙◌}
use mathlib.Core.Bool.{false}
use mathlib.Core.List.{List}
use Prim.Native.Nat.{ℕ, ◌≤◌, ◌<◌}
use native.Mathlib.Omega.{arith}
use borrow.Author.Tests.{eqb-true, eqb-false, ltb-false, not-false}
use lib.Dec.{ltb}
use lib.ListN.{length}
use Rattle.refusal.specs.Refusals.{FirstToHold, first_refusal}
use Rattle.refusal.proofs.RefusalLaws.{first_exactly_when}
use Rattle.arithmetic.proofs.TestLaws.{neither, inside, any_none}
use Rattle.map.specs.Size.{map_cells, map_rows}
use Rattle.map.specs.Map.{largest_count, least_area, largest_area, wrong_area, Map, count_at, cells_in}
use Rattle.map.specs.Refusals.{wrong_counts_length, wrong_marks_length, wrong_lengths, wrong_count, map_tests}

pub counts_length : (counts : List ℕ) → wrong_counts_length counts ≡ false → length counts ≡ map_cells
counts_length counts e = eqb-true (length counts) map_cells (not-false _ e)

pub lengths : (counts marks : List ℕ) → wrong_lengths counts marks ≡ false → (length counts ≡ map_cells) × (length marks ≡ map_rows)
lengths counts marks h =
    let p = neither (wrong_counts_length counts) (wrong_marks_length marks) h in
    (counts_length counts p.0, eqb-true (length marks) map_rows (not-false _ p.1))

-- every count is in its range where the test of refusal 7 failed
pub counts_small : (counts : List ℕ) → wrong_count counts ≡ false → (i : ℕ) → i < map_cells → count_at counts i ≤ largest_count
counts_small counts h i l =
    ltb-false largest_count (count_at counts i) (any_none (λ p. ltb largest_count (count_at counts p)) map_cells h i l)

pub record Passed (map : Map) (marks : List ℕ) : Type 0 where
  pub counts_length : length map.counts ≡ map_cells
  pub marks_length : length marks ≡ map_rows
  pub area_in : wrong_area map.cell_area ≡ false
  pub area_ge : least_area ≤ map.cell_area
  pub area_le : map.cell_area ≤ largest_area
  pub counts_in : wrong_count map.counts ≡ false
  pub some_cell : 0 < cells_in marks

pub passed : (map : Map) (marks : List ℕ) → FirstToHold (map_tests map marks) 0 → Passed map marks
passed map marks h =
    let l = lengths map.counts marks h.0 in
    let a = inside least_area largest_area map.cell_area h.1.0 in
    record {
      counts_length = l.0;
      marks_length = l.1;
      area_in = h.1.0;
      area_ge = a.0;
      area_le = a.1;
      counts_in = h.1.1.0;
      some_cell = omega (arith, eqb-false (cells_in marks) 0 h.1.1.1.0);
    }

-- by the number that the tests gave
pub passed_by : (map : Map) (marks : List ℕ) {n : ℕ} → n ≡ first_refusal (map_tests map marks) → n ≡ 0 → Passed map marks
passed_by map marks e z = passed map marks ((first_exactly_when (map_tests map marks) refl 0).0 (sym e ∙ z))
