-- Laws of one map row: its four lanes, their sum, its largest key, and the row as a whole.
use mathlib.Core.Path.{◌≡◌, refl, sym, ap, ◌∙◌}
use mathlib.Core.List.{List}
use Prim.Native.Nat.{ℕ, zero, suc, ◌+◌, ◌-◌, ◌*◌, ◌%◌, ◌^◌, ◌≤◌, ◌<◌}
use native.Mathlib.Nat.{zero-div, le_trans}
use native.Mathlib.Omega.{arith}
use Rattle.arithmetic.specs.SumsAndMaxima.{sum_below, max_below}
use Rattle.arithmetic.proofs.SumLaws.{sum_next, max_next, sum_le, max_le, max_same, max_map, sum_columns, max_columns}
use Rattle.map.specs.Size.{map_columns}
use Rattle.map.specs.Map.{largest_count, count_at, bit_at}
use Rattle.footprint.specs.PrivateWalk.{row_key, marked_count, joined, cell_tally, row_tally, row_walk}
use Rattle.footprint.specs.declared.row.Tally.{Tally}
use Rattle.map.proofs.MarkLaws.{ones_of_row, no_ones}
use Rattle.footprint.proofs.CellLaws.{marked_le, no_key}

-- ---- a map row's lanes

-- the first n cells of a map row's columns j, 4 + j, 8 + j, ..
abbrev pub lane_of : List ℕ → ℕ → ℕ → ℕ → Tally
lane_of counts bits j n = record {
  people = sum_below (λ i. marked_count counts bits (4 * i + j)) n;
  most = max_below (λ i. marked_count counts bits (4 * i + j)) n;
}

module _ (counts : List ℕ) (bits : ℕ) where
  -- one step more
  pub lane_next : (j k : ℕ) → joined (lane_of counts bits j k) (cell_tally counts bits (4 * k + j)) ≡ lane_of counts bits j (k + 1)
  lane_next j k =
      let p = sym (sum_next (λ i. marked_count counts bits (4 * i + j)) k) in
      let a = sym (max_next (λ i. marked_count counts bits (4 * i + j)) k) in λ i. record { people = p i; most = a i }

  -- the four lanes are the row
  pub lanes_all : joined (joined (joined (lane_of counts bits 0 16) (lane_of counts bits 1 16)) (lane_of counts bits 2 16)) (lane_of counts bits 3 16) ≡ row_tally counts bits
  lanes_all =
      let p = sym (sum_columns (marked_count counts bits) 16) in
      let a = sym (max_columns (marked_count counts bits) 16) in λ i. record { people = p i; most = a i }

  module _ (small : (i : ℕ) → i < map_columns → count_at counts i ≤ largest_count) where
    pub marked_small : (i : ℕ) → i < map_columns → marked_count counts bits i ≤ largest_count
    marked_small i l = le_trans (marked_le (bit_at bits i) (count_at counts i) (omega arith)) (small i l)

    lane_le : (j k : ℕ) → j < 4 → k ≤ 16 → (lane_of counts bits j k).people ≤ k * largest_count
    lane_le j k h l = sum_le (λ i. marked_count counts bits (4 * i + j)) largest_count k (λ i m. marked_small (4 * i + j) (omega arith))

    -- a lane fits its type with one cell more, and so do all lanes together
    pub cell_fits : (j k : ℕ) {lane cell : Tally} → j < 4 → k < 16 → lane ≡ lane_of counts bits j k → cell ≡ cell_tally counts bits (4 * k + j)
        → lane.people + cell.people < 2 ^ 32
    cell_fits j k h l e q =
        omega (arith, ap (λ (x : Tally). x.people) e, ap (λ (x : Tally). x.people) q, lane_le j k h (omega arith), marked_small (4 * k + j) (omega arith))

    pub people_le : (j : ℕ) {lane : Tally} → j < 4 → lane ≡ lane_of counts bits j 16 → lane.people ≤ 16 * largest_count
    people_le j h e = omega (arith, ap (λ (x : Tally). x.people) e, lane_le j 16 h (omega arith))

    pub most_le : max_below (marked_count counts bits) map_columns ≤ largest_count
    most_le = max_le (marked_count counts bits) largest_count map_columns marked_small

-- ---- a map row

module _ (counts : List ℕ) (bits : ℕ) where
  -- the largest marked count is one less than the largest key
  largest_marked : max_below (marked_count counts bits) map_columns ≡ max_below (row_key counts bits) map_columns - 1
  largest_marked =
      max_same (marked_count counts bits) (λ c. row_key counts bits c - 1) map_columns (λ c l. each (bit_at bits c) (count_at counts c) (omega arith))
      ∙ max_map (row_key counts bits) (λ (x : ℕ). x - 1) refl (λ x y l. omega arith) map_columns
    where
      each : (m x : ℕ) → m < 2 → m * x ≡ m * (x + 1) - 1
      each zero x h = omega arith
      each (suc zero) x h = omega arith
      each (suc (suc m)) x h = let wrong : ⊥ = omega arith in absurd wrong

  -- a row that has a mark has a key above 0
  pub key_pos : bits < 2 ^ 64 → (bits ≡ 0 → ⊥) → max_below (row_key counts bits) map_columns ≡ max_below (marked_count counts bits) map_columns + 1
  key_pos small some = by_cases (max_below (row_key counts bits) map_columns) refl
    where
      by_cases : (n : ℕ) → max_below (row_key counts bits) map_columns ≡ n → max_below (row_key counts bits) map_columns ≡ max_below (marked_count counts bits) map_columns + 1
      by_cases zero e = absurd (some (no_ones 64 bits small (ones_of_row bits small ∙ no_key (bit_at bits) (count_at counts) map_columns e)))
      by_cases (suc n) e = omega (arith, e, largest_marked)

-- a map row with no mark
module _ (counts : List ℕ) where
  clear : (c : ℕ) → bit_at 0 c ≡ 0
  clear c = ap (λ (x : ℕ). x % 2) (zero-div (2 ^ (63 - c)))

  clear_le : (c x : ℕ) → bit_at 0 c * x ≤ 0
  clear_le c x = rw (clear c) (omega arith)

  pub row_empty : record { worst = 0; people = 0; cells = 0 } ≡ row_walk counts 0
  row_empty =
      let t : 0 ≡ max_below (row_key counts 0) map_columns =
      omega (arith, max_le (row_key counts 0) 0 map_columns (λ c l. clear_le c (count_at counts c + 1))) in
      let p : 0 ≡ sum_below (marked_count counts 0) map_columns =
      omega (arith, sum_le (marked_count counts 0) 0 map_columns (λ c l. clear_le c (count_at counts c))) in
      let k : 0 ≡ sum_below (bit_at 0) map_columns =
      omega (arith, sum_le (bit_at 0) 0 map_columns (λ c l. omega (arith, clear c))) in
      λ i. record { worst = t i; people = p i; cells = k i }
