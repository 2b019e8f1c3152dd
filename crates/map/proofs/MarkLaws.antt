-- Laws of the marks: a mark is 0 or 1, a row's number of marks is its count of ones, and no mark is set exactly where every row is 0.
use mathlib.Core.Path.{◌≡◌, sym, ◌∙◌}
use mathlib.Core.Logic.{⊎_elim}
use mathlib.Core.List.{List}
use Prim.Native.Nat.{ℕ, zero, suc, ◌+◌, ◌-◌, ◌*◌, ◌/◌, ◌%◌, ◌^◌, ◌≤◌, ◌<◌}
use native.Mathlib.Nat.{zero-div}
use native.Mathlib.Omega.{arith}
use borrow.Author.Tests.{eq-eqb, ne_eqb}
use lib.Count.{ones, ones_step}
use lib.Dec.{eqb}
use lib.ListN.{get_or}
use Rattle.arithmetic.specs.SumsAndMaxima.{sum_below}
use Rattle.arithmetic.proofs.OrLaws.{or_below, le_or, or_below_lem}
use Rattle.arithmetic.proofs.SumLaws.{sum_same, sum_le, sum_rows, ones_sum}
use Rattle.arithmetic.proofs.TestLaws.{lt_or_le}
use Rattle.map.specs.Size.{map_rows, map_columns, map_cells}
use Rattle.map.specs.Map.{bit_at, mark_at, cells_in}
use Rattle.map.specs.Refusals.{no_mark}

pub mark_lt : (marks : List ℕ) (p : ℕ) → mark_at marks p < 2
mark_lt marks p = omega arith

-- a row's mark at a column is the mark at its place
pub mark_here : (marks : List ℕ) (r i : ℕ) → i < map_columns → bit_at (get_or marks r 0) i ≡ mark_at marks (map_columns * r + i)
mark_here marks r i l =
    let q : (map_columns * r + i) / map_columns ≡ r = omega arith in
    let m : (map_columns * r + i) % map_columns ≡ i = omega arith in rw (q, m)

-- the count of ones of a footprint row is the number of its marked cells
pub ones_of_row : (bits : ℕ) → bits < 2 ^ 64 → ones bits ≡ sum_below (bit_at bits) map_columns
ones_of_row bits h =
    ones_sum 64 bits h
    ∙ sum_same (λ c. bits / 2 ^ (64 - suc c) % 2) (bit_at bits) 64 (λ c l. let e : 64 - suc c ≡ 63 - c = omega arith in rw e)

-- "the number of marked cells, which is the number of set bits"
pub cells_are_ones : (marks : List ℕ) → ((r : ℕ) → r < map_rows → get_or marks r 0 < 2 ^ 64) → cells_in marks ≡ sum_below (λ r. ones (get_or marks r 0)) map_rows
cells_are_ones marks small =
    sym (sum_rows (mark_at marks) map_columns map_rows)
    ∙ sum_same (λ r. sum_below (λ c. mark_at marks (map_columns * r + c)) map_columns) (λ r. ones (get_or marks r 0)) map_rows
    (λ r l. sym (sum_same (bit_at (get_or marks r 0)) (λ c. mark_at marks (map_columns * r + c)) map_columns (mark_here marks r))
    ∙ sym (ones_of_row (get_or marks r 0) (small r l)))

-- ---- no mark

pub no_ones : (k n : ℕ) → n < 2 ^ k → ones n ≡ 0 → n ≡ 0
no_ones zero n h e = omega arith
no_ones (suc k) n h e = omega (arith, ones_step n, no_ones k (n / 2) (omega arith) (omega (arith, ones_step n)))

sum_zero : (f : ℕ → ℕ) (n : ℕ) → sum_below f n ≡ 0 → (i : ℕ) → i < n → f i ≡ 0
unfolding sum_below
sum_zero f zero e i l = omega arith
sum_zero f (suc n) e i l =
    ⊎_elim (λ (k : i < n). sum_zero f n (omega arith) i k) (λ (k : n ≤ i). let q : i ≡ n = omega arith in rw q (omega arith)) (lt_or_le i n)

module _ (marks : List ℕ) (small : (r : ℕ) → r < map_rows → get_or marks r 0 < 2 ^ 64) where
  abbrev all : ℕ
  all = or_below (λ r. get_or marks r 0) map_rows

  clear_cells : all ≡ 0 → cells_in marks ≡ 0
  clear_cells e =
      omega (arith, sum_le (mark_at marks) 0 map_cells (λ p l. rw (row_clear p l) (omega (arith, zero-div (2 ^ (63 - p % map_columns))))))
    where
      row_clear : (p : ℕ) → p < map_cells → get_or marks (p / map_columns) 0 ≡ 0
      row_clear p l = omega (arith, le_or (λ r. get_or marks r 0) map_rows (p / map_columns) (omega arith))

  clear_rows : cells_in marks ≡ 0 → all ≡ 0
  clear_rows e =
      let none = sum_zero (λ r. ones (get_or marks r 0)) map_rows (sym (cells_are_ones marks small) ∙ e) in
      omega (arith, or_below_lem (λ r. get_or marks r 0) 0 map_rows (λ r l. omega (arith, no_ones 64 (get_or marks r 0) (small r l) (none r l))))

  -- no bit is set in the bitwise or of the rows exactly where no cell is marked
  pub no_mark_is : eqb all 0 ≡ no_mark marks
  no_mark_is =
      ⊎_elim (λ (h : 0 < all). ne_eqb all 0 (λ e. omega arith) ∙ sym (ne_eqb (cells_in marks) 0 (λ e. omega (arith, clear_rows e))))
      (λ (h : all ≤ 0). eq-eqb all 0 (omega arith) ∙ sym (eq-eqb (cells_in marks) 0 (clear_cells (omega arith)))) (lt_or_le 0 all)
