-- Laws of the walk: a map row lent as a part, the map with one row more, the first worst row, and the answer from the whole.
use mathlib.Core.Path.{◌≡◌, refl, sym, ap, ap₂, ◌∙◌}
use mathlib.Core.Bool.{Bool, true, false, cond}
use mathlib.Core.List.{List}
use Prim.Native.Nat.{ℕ, zero, suc, ◌+◌, ◌-◌, ◌*◌, ◌^◌, ◌≤◌, ◌<◌}
use native.Mathlib.Nat.{le_trans, le_of_suc-le-suc}
use native.Mathlib.Omega.{arith}
use borrow.Author.Tests.{lt-ltb, ne_eqb}
use lib.Dec.{ltb, eqb}
use lib.ListN.{get_or}
use Rattle.arithmetic.specs.Lists.{part}
use Rattle.arithmetic.specs.SumsAndMaxima.{sum_below, max_below}
use Rattle.arithmetic.specs.PrivateFirstMaximum.{first_max_below}
use Rattle.arithmetic.proofs.PartLaws.{slice_at}
use Rattle.arithmetic.proofs.SumLaws.{sum_same, max_same, first_same, sum_add, sum_le, max_le, max_rows, first_rows, first_in_row}
use Rattle.arithmetic.proofs.BestLaws.{best_first, best_one, best_lt, best_next, best_is_first, first_value}
use Rattle.map.specs.Size.{map_cells, map_rows, map_columns}
use Rattle.map.specs.GroundMap.{map_of}
use Rattle.map.specs.Map.{largest_count, Map, count_at, bit_at, mark_at, cells_in}
use Rattle.map.specs.TableRow.{table_row}
use Rattle.map.specs.Refusals.{wrong_count}
use Rattle.footprint.specs.Footprint.{people_at, highest_row, worst_place, accepted_footprint}
use Rattle.footprint.specs.PrivateWalk.{key_at, row_key, marked_count, row_walk, with_row, largest_key_in, row_worse, worst_row, map_walk}
use Rattle.footprint.specs.declared.row.RowWalk.{RowWalk}
use Rattle.footprint.specs.declared.walk.MapWalk.{MapWalk}
use Rattle.footprint.specs.declared.walk.MarkedMap.{MarkedMap}
use Rattle.map.proofs.MarkLaws.{mark_lt, mark_here}
use Rattle.map.proofs.TestsPassed.{Passed, passed_by, counts_small}
use Rattle.footprint.proofs.CellLaws.{marked_le, key_le}
use Rattle.footprint.proofs.WorstCellLaws.{some_key, place_is, highest_is, worst_count}

-- no key is larger
abbrev key_max : ℕ
key_max = largest_count + 1

-- what is known of a map and marks that aren't refused
pub known : (m : MarkedMap) → Passed (map_of m.map) m.marks.now
known m = passed_by (map_of m.map) m.marks.now (sym m.accepted) refl

-- ---- a map row lent as a part of the map's counts

module _ (counts marks : List ℕ) (r : ℕ) where
  abbrev pub lent : List ℕ
  lent = part counts (map_columns * r) (map_columns * r + map_columns)

  pub lent_at : (i : ℕ) → i < map_columns → count_at lent i ≡ count_at counts (map_columns * r + i)
  lent_at i l = slice_at counts (map_columns * r) map_columns i l

  pub lent_small : r < map_rows → wrong_count counts ≡ false → (i : ℕ) → i < map_columns → count_at lent i ≤ largest_count
  lent_small h s i l = omega (arith, lent_at i l, counts_small counts s (map_columns * r + i) (omega arith))

  key_here : (i : ℕ) → i < map_columns → row_key lent (get_or marks r 0) i ≡ key_at counts marks (map_columns * r + i)
  key_here i l = ap₂ (λ (m x : ℕ). m * (x + 1)) (mark_here marks r i l) (lent_at i l)

  pub first_here : first_max_below (row_key lent (get_or marks r 0)) map_columns ≡ first_max_below (λ c. key_at counts marks (map_columns * r + c)) map_columns
  first_here = first_same (row_key lent (get_or marks r 0)) (λ c. key_at counts marks (map_columns * r + c)) map_columns key_here

  pub worst_here : max_below (row_key lent (get_or marks r 0)) map_columns ≡ largest_key_in counts marks r
  worst_here = max_same (row_key lent (get_or marks r 0)) (λ c. key_at counts marks (map_columns * r + c)) map_columns key_here

  row_here : row_walk lent (get_or marks r 0) ≡ record {
    worst = largest_key_in counts marks r;
    people = sum_below (λ c. mark_at marks (map_columns * r + c) * count_at counts (map_columns * r + c)) map_columns;
    cells = sum_below (λ c. mark_at marks (map_columns * r + c)) map_columns;
  }
  row_here =
      let t = worst_here in
      let p = sum_same (marked_count lent (get_or marks r 0)) (λ c. mark_at marks (map_columns * r + c) * count_at counts (map_columns * r + c)) map_columns
      (λ i l. ap₂ (λ (m x : ℕ). m * x) (mark_here marks r i l) (lent_at i l)) in
      let k = sum_same (bit_at (get_or marks r 0)) (λ c. mark_at marks (map_columns * r + c)) map_columns (mark_here marks r) in
      λ i. record { worst = t i; people = p i; cells = k i }

  -- no key of a row is above the largest
  pub largest_small : r < map_rows → wrong_count counts ≡ false → largest_key_in counts marks r ≤ key_max
  largest_small l h =
      max_le (λ c. key_at counts marks (map_columns * r + c)) key_max map_columns
      (λ c m. key_le (mark_at marks (map_columns * r + c)) (count_at counts (map_columns * r + c)) (mark_lt marks (map_columns * r + c)) (counts_small counts h (map_columns * r + c) (omega arith)))

-- ---- the map with one row more

-- a key that is taken where it is above 0
taken : (k : ℕ) → cond (ltb 0 k) k 0 ≡ k
taken zero = refl
taken (suc k) = simp (lt-ltb 0 (suc k) (omega arith))

-- a choice goes through a function
through : (f : ℕ → ℕ) (t : Bool) (x y : ℕ) → cond t (f x) (f y) ≡ f (cond t x y)
through f true x y = refl
through f false x y = refl

module _ (counts marks : List ℕ) where
  abbrev worst_at : ℕ → ℕ
  worst_at n = cond (eqb n 0) 0 (largest_key_in counts marks (worst_row counts marks n))

  worst_at_lem : (n : ℕ) → 0 < n → worst_at n ≡ largest_key_in counts marks (worst_row counts marks n)
  worst_at_lem n h = simp (ne_eqb n 0 (λ e. omega arith))

  -- the row r is worse than the rows before exactly where its largest key is above the limit
  limit_here : (r : ℕ) → 0 < r → ltb (worst_at r) (largest_key_in counts marks r) ≡ row_worse counts marks r (worst_row counts marks r)
  limit_here r h = ap (λ (k : ℕ). ltb k (largest_key_in counts marks r)) (worst_at_lem r h)

  next_row : (r : ℕ) → cond (ltb (worst_at r) (largest_key_in counts marks r)) r (worst_row counts marks r) ≡ worst_row counts marks (r + 1)
  next_row zero = best_first (row_worse counts marks) (ltb (worst_at 0) (largest_key_in counts marks 0))
  next_row (suc n) =
      ap (λ (t : Bool). cond t (suc n) (worst_row counts marks (suc n))) (limit_here (suc n) (omega arith))
      ∙ sym (best_next (row_worse counts marks) (suc n))

  next_worst : (r : ℕ) → cond (ltb (worst_at r) (largest_key_in counts marks r)) (largest_key_in counts marks r) (worst_at r) ≡ worst_at (r + 1)
  next_worst zero = taken (largest_key_in counts marks 0) ∙ ap (largest_key_in counts marks) (sym (best_one (row_worse counts marks)))
  next_worst (suc n) =
      let r : ℕ = suc n in
      let t : Bool = ltb (worst_at r) (largest_key_in counts marks r) in
      ap (cond t (largest_key_in counts marks r)) (worst_at_lem r (omega arith))
      ∙ through (largest_key_in counts marks) t r (worst_row counts marks r)
      ∙ ap (largest_key_in counts marks) (next_row r)
      ∙ sym (worst_at_lem (r + 1) (omega arith))

  module _ (c_in : wrong_count counts ≡ false) (r : ℕ) (l : r < map_rows) {w : MapWalk} (before : w ≡ map_walk counts marks r) where
    module _ {b : RowWalk} (row : b ≡ row_walk (lent counts marks r) (get_or marks r 0)) where
      pub map_next : with_row w b r ≡ map_walk counts marks (r + 1)
      map_next =
          let e : map_columns * r + map_columns ≡ map_columns * (r + 1) = omega arith in
          let p = sym (sum_add (people_at counts marks) (map_columns * r) map_columns) ∙ ap (sum_below (people_at counts marks)) e in
          let k = sym (sum_add (mark_at marks) (map_columns * r) map_columns) ∙ ap (sum_below (mark_at marks)) e in
          let t = next_worst r in
          let s = next_row r in
          let b_is = row ∙ row_here counts marks r in
          ap₂ (λ (x : MapWalk) (y : RowWalk). with_row x y r) before b_is ∙ (λ i. record { worst = t i; row = s i; people = p i; cells = k i })

      -- the sums fit their types
      pub map_fits : (w.people + b.people < 2 ^ 64) × (w.cells + b.cells < 2 ^ 32)
      map_fits = (
        omega (arith, ap (λ (x : MapWalk). x.people) map_next, sum_le (people_at counts marks) largest_count (map_columns * (r + 1)) (λ i m. le_trans (marked_le (mark_at marks i) (count_at counts i) (mark_lt marks i)) (counts_small counts c_in i (omega arith)))),
        omega (arith, ap (λ (x : MapWalk). x.cells) map_next, sum_le (mark_at marks) 1 (map_columns * (r + 1)) (λ i m. le_of_suc-le-suc (mark_lt marks i))),
      )

-- ---- the first worst row

module _ (counts marks : List ℕ) where
  row_is : worst_row counts marks map_rows ≡ first_max_below (largest_key_in counts marks) map_rows
  row_is = best_is_first (row_worse counts marks) (largest_key_in counts marks) map_rows (λ q p hq hp. refl)

  -- the first worst cell is in it
  first_by_row : 0 < cells_in marks → first_max_below (key_at counts marks) map_cells ≡ first_in_row (key_at counts marks) map_columns (worst_row counts marks map_rows)
  first_by_row some =
      first_rows (key_at counts marks) map_columns map_rows (some_key counts marks some)
      ∙ ap (first_in_row (key_at counts marks) map_columns) (sym row_is)

  row_largest : largest_key_in counts marks (worst_row counts marks map_rows) ≡ max_below (key_at counts marks) map_cells
  row_largest =
      ap (largest_key_in counts marks) row_is ∙ first_value (largest_key_in counts marks) map_rows (omega arith) ∙ max_rows (key_at counts marks) map_columns map_rows

-- ---- the answer, from the walk over all rows of a map that isn't refused

module _ (counts marks : List ℕ) {w : MapWalk} (w_is : w ≡ map_walk counts marks map_rows) where
  pub row_lt : w.row < map_rows
  row_lt = omega (arith, ap (λ (x : MapWalk). x.row) w_is, best_lt (row_worse counts marks) map_rows (omega arith))

  worst_all : w.worst ≡ largest_key_in counts marks w.row
  worst_all = ap (λ (x : MapWalk). x.worst) w_is ∙ sym (ap (λ (x : MapWalk). largest_key_in counts marks x.row) w_is)

  pub worst_le : wrong_count counts ≡ false → w.worst ≤ key_max
  worst_le c_in = rw worst_all (largest_small counts marks w.row row_lt c_in)

  -- the first worst row's largest key is the walk's
  pub worst_is : w.worst ≡ max_below (row_key (lent counts marks w.row) (get_or marks w.row 0)) map_columns
  worst_is = worst_all ∙ sym (worst_here counts marks w.row)

  worst_largest : w.worst ≡ max_below (key_at counts marks) map_cells
  worst_largest = ap (λ (x : MapWalk). x.worst) w_is ∙ row_largest counts marks

  module _ (some : 0 < cells_in marks) where
    pub worst_pos : 0 < w.worst
    worst_pos = omega (arith, some_key counts marks some, worst_largest)

    module _ (area : ℕ) where
      abbrev map : Map
      map = record { counts = counts; cell_area = area }

      -- the count from which the row is judged is the worst cell's
      count_judged : w.worst - 1 ≡ count_at counts (worst_place map marks)
      count_judged = omega (arith, worst_largest, worst_count map marks some)

      row_all : table_row (w.worst - 1) area ≡ highest_row map marks
      row_all = ap (λ (n : ℕ). table_row n area) count_judged ∙ sym (highest_is map marks some)

      place_all : map_columns * w.row + first_max_below (λ c. key_at counts marks (map_columns * w.row + c)) map_columns ≡ worst_place map marks
      place_all =
          ap (first_in_row (key_at counts marks) map_columns) (ap (λ (x : MapWalk). x.row) w_is)
          ∙ sym (first_by_row counts marks some)
          ∙ sym (place_is map marks)

      pub answer : {row column : ℕ} → row ≡ table_row (w.worst - 1) area
          → column ≡ first_max_below (row_key (lent counts marks w.row) (get_or marks w.row 0)) map_columns
          → record { refusal = 0; row = row; place = map_columns * w.row + column; people = w.people; cells = w.cells } ≡ accepted_footprint map marks
      answer er ec =
          let r = er ∙ row_all in
          let p = ap (λ (x : ℕ). map_columns * w.row + x) (ec ∙ first_here counts marks w.row) ∙ place_all in
          let s = ap (λ (x : MapWalk). x.people) w_is in
          let k = ap (λ (x : MapWalk). x.cells) w_is in
          λ i. record { refusal = 0; row = r i; place = p i; people = s i; cells = k i }
