-- Laws of a map's rows: each is a part of its counts.
use mathlib.Core.Path.{◌≡◌, refl, ap, ◌∙◌}
use mathlib.Core.List.{List, []}
use Prim.Native.Nat.{ℕ, zero, suc, ◌+◌, ◌-◌, ◌*◌, ◌/◌, ◌<◌}
use native.Mathlib.Omega.{arith}
use lib.ListN.{length, get_or, take, drop}
use lib.Seq.{drop-drop}
use Rattle.std.specs.Simd.{first_chunks}
use Rattle.arithmetic.specs.Lists.{part}
use Rattle.map.specs.Size.{map_rows, map_columns, map_cells}

chunk_at : (k : ℕ) (counts : List ℕ) (r : ℕ) → r < k → get_or (first_chunks map_columns k counts) r [] ≡ take map_columns (drop (map_columns * r) counts)
chunk_at zero counts r l = absurd (omega arith)
chunk_at (suc k) counts zero l = refl
chunk_at (suc k) counts (suc r) l =
    let next : map_columns * suc r ≡ map_columns + map_columns * r = omega arith in
    chunk_at k (drop map_columns counts) r (omega arith) ∙ rw (drop-drop (map_columns * r) map_columns counts, next) refl

module _ (counts : List ℕ) {rows : List (List ℕ)} (long : length counts ≡ map_cells) (read : rows ≡ first_chunks map_columns (length counts / map_columns) counts) where
  rows_are : rows ≡ first_chunks map_columns map_rows counts
  rows_are = read ∙ ap (λ (n : ℕ). first_chunks map_columns (n / map_columns) counts) long

  pub rows_length : length rows ≡ map_rows
  rows_length = ap length rows_are

  -- the row r, as it is lent
  pub row_is_part : (r : ℕ) → r < map_rows → get_or rows r [] ≡ part counts (map_columns * r) (map_columns * r + map_columns)
  row_is_part r l =
      let wide : map_columns * r + map_columns - map_columns * r ≡ map_columns = omega arith in
      ap (λ (x : List (List ℕ)). get_or x r []) rows_are ∙ chunk_at map_rows counts r l ∙ rw wide refl
