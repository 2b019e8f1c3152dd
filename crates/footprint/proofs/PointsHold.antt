-- The footprint of P16, by rule.
use mathlib.Core.Path.{◌≡◌, refl, sym, ap, ap₂, ◌∙◌}
use mathlib.Core.Logic.{⊎_elim}
use mathlib.Core.Bool.{false}
use mathlib.Core.List.{List}
use Prim.Native.Nat.{ℕ, zero, suc, ◌+◌, ◌-◌, ◌*◌, ◌/◌, ◌%◌, ◌^◌, ◌≤◌, ◌<◌}
use native.Mathlib.Nat.{div-eq_of_lt}
use native.Mathlib.Omega.{arith}
use borrow.Author.Tests.{eq-eqb, le-ltb}
use lib.Bits.{shifted_even}
use lib.Dec.{ltb, eqb}
use lib.ListN.{get_or}
use lib.Pow.{pow-add, shl-shr, pow_pos}
use Rattle.refusal.proofs.RefusalLaws.{way_out}
use Rattle.arithmetic.proofs.TestLaws.{lt_or_le, none_any}
use Rattle.arithmetic.proofs.SumLaws.{sum_first, max_first, first_first}
use Rattle.map.specs.Size.{map_cells}
use Rattle.map.specs.Map.{largest_count, Map, count_at, bit_at, mark_at, cells_in}
use Rattle.map.specs.TableRow.{table_row}
use Rattle.map.specs.Refusals.{wrong_lengths, wrong_count, no_mark, map_tests}
use Rattle.footprint.specs.Footprint.{people_at, highest_row, worst_place, people_in, refused_footprint, accepted_footprint, footprint_of}
use Rattle.footprint.specs.PrivateWalk.{key_at}
use Rattle.footprint.specs.Points.{P16Map, P16Footprint}
use Rattle.footprint.proofs.WorstCellLaws as law

-- the other columns of a row with the westernmost cell marked
other_columns : (c : ℕ) → c < 63 → bit_at (2 ^ 63) (suc c) ≡ 0
other_columns c l =
    let e : suc c + (63 - suc c) ≡ 63 = omega arith in
    ap (λ (k : ℕ). 2 ^ k / 2 ^ (63 - suc c) % 2) (sym e)
    ∙ ap (λ (x : ℕ). x / 2 ^ (63 - suc c) % 2) (pow-add 2 (suc c) (63 - suc c))
    ∙ ap (λ (x : ℕ). x % 2) (shl-shr (2 ^ suc c) (63 - suc c))
    ∙ omega (arith, shifted_even 1 c)

module _ (counts marks : List ℕ) (m : P16Map counts marks) where
  abbrev p16_map : Map
  p16_map = record { counts = counts; cell_area = 10000 }

  first_mark : mark_at marks 0 ≡ 1
  first_mark = ap (λ (b : ℕ). bit_at b 0) m.first_marks

  other_marks : (p : ℕ) → p < 4095 → mark_at marks (suc p) ≡ 0
  other_marks p l =
      ⊎_elim
      (λ (k : suc p < 64).
      let row : suc p / 64 ≡ 0 = omega arith in
      let column : suc p % 64 ≡ suc p = omega arith in
      ap₂ (λ (r c : ℕ). bit_at (get_or marks r 0) c) row column ∙ ap (λ (b : ℕ). bit_at b (suc p)) m.first_marks ∙ other_columns p (omega arith))
      (λ (k : 64 ≤ suc p).
      let row : suc p / 64 ≡ suc (suc p / 64 - 1) = omega arith in
      ap (λ (r : ℕ). bit_at (get_or marks r 0) (suc p % 64)) row
      ∙ ap (λ (b : ℕ). bit_at b (suc p % 64)) (m.other_marks (suc p / 64 - 1))
      ∙ ap (λ (x : ℕ). x % 2) (div-eq_of_lt (pow_pos (63 - suc p % 64))))
      (lt_or_le (suc p) 64)

  people_is : people_in counts marks ≡ 8
  people_is =
      sum_first (people_at counts marks) 4095 (λ p l. ap₂ (λ (k x : ℕ). k * x) (other_marks p l) (m.other_counts p))
      ∙ ap₂ (λ (k x : ℕ). k * x) first_mark m.first_count

  cells_is : cells_in marks ≡ 1
  cells_is = sum_first (mark_at marks) 4095 other_marks ∙ first_mark

  row_is : highest_row p16_map marks ≡ 5
  unfolding table_row
  row_is =
      max_first (λ p. mark_at marks p * table_row (count_at counts p) 10000) 4095
      (λ p l. ap₂ (λ (k x : ℕ). k * table_row x 10000) (other_marks p l) (m.other_counts p))
      ∙ ap₂ (λ (k x : ℕ). k * table_row x 10000) first_mark m.first_count

  place_is : worst_place p16_map marks ≡ 0
  place_is = law.place_is p16_map marks ∙ first_first (key_at counts marks) 4095 (λ p l. ap₂ (λ (k x : ℕ). k * (x + 1)) (other_marks p l) (m.other_counts p))

  count_le : (p : ℕ) → count_at counts p ≤ largest_count
  count_le zero = omega (arith, m.first_count)
  count_le (suc p) = omega (arith, m.other_counts p)

pub p16_footprint : P16Footprint
unfolding footprint_of
p16_footprint counts marks m =
    let lengths_in : wrong_lengths counts marks ≡ false = simp (eq-eqb _ _ m.counts_length, eq-eqb _ _ m.marks_length) in
    let counts_in : wrong_count counts ≡ false =
    none_any (λ p. ltb largest_count (count_at counts p)) map_cells (λ p l. le-ltb largest_count (count_at counts p) (count_le counts marks m p)) in
    let marks_in : no_mark marks ≡ false = ap (λ (n : ℕ). eqb n 0) (cells_is counts marks m) in
    let r = row_is counts marks m in
    let p = place_is counts marks m in
    let s = people_is counts marks m in
    let c = cells_is counts marks m in
    sym (way_out (accepted_footprint (p16_map counts marks m) marks) refused_footprint (map_tests (p16_map counts marks m) marks) refl 0 lengths_in refl counts_in marks_in)
    ∙ (λ i. record { refusal = 0; row = r i; place = p i; people = s i; cells = c i })
