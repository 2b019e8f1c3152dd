-- What the walk over a map row, and over the map row by row, gives. Only private functions are stated by it.
use Rattle.std.specs.Prelude.{Bool, cond, List, ℕ, ◌+◌, ◌*◌, max, ltb, eqb}
use Rattle.arithmetic.specs.SumsAndMaxima.{sum_below, max_below, first_best}
use Rattle.map.specs.Size.{map_columns}
use Rattle.map.specs.Map.{count_at, bit_at, mark_at}
use Rattle.footprint.specs.Footprint.{people_at}
use Rattle.footprint.specs.declared.row.RowWalk.{RowWalk}
use Rattle.footprint.specs.declared.row.Tally.{Tally}
use Rattle.footprint.specs.declared.walk.MapWalk.{MapWalk}

-- within a row, what the marked cells are compared by: one more than the count, and 0 where a cell isn't marked
abbrev pub key_at : List ℕ → List ℕ → ℕ → ℕ
key_at counts marks p = mark_at marks p * (count_at counts p + 1)

-- the key of a map row's cell
abbrev pub row_key : List ℕ → ℕ → ℕ → ℕ
row_key counts bits column = bit_at bits column * (count_at counts column + 1)

-- the count of a map row's cell where it is marked, else 0
abbrev pub marked_count : List ℕ → ℕ → ℕ → ℕ
marked_count counts bits column = bit_at bits column * count_at counts column

-- two tallies together
abbrev pub joined : Tally → Tally → Tally
joined a b = record { people = a.people + b.people; most = max a.most b.most }

-- the tally of a map row's cell
abbrev pub cell_tally : List ℕ → ℕ → ℕ → Tally
cell_tally counts bits column = record { people = marked_count counts bits column; most = marked_count counts bits column }

-- a map row's people, and the largest of its marked counts
abbrev pub row_tally : List ℕ → ℕ → Tally
row_tally counts bits = record {
  people = sum_below (marked_count counts bits) map_columns;
  most = max_below (marked_count counts bits) map_columns;
}

-- one map row: its 64 counts and its footprint row
abbrev pub row_walk : List ℕ → ℕ → RowWalk
row_walk counts bits = record {
  worst = max_below (row_key counts bits) map_columns;
  people = sum_below (marked_count counts bits) map_columns;
  cells = sum_below (bit_at bits) map_columns;
}

-- the rows before the row r, and the row r
abbrev pub with_row : MapWalk → RowWalk → ℕ → MapWalk
with_row w b r = record {
  worst = cond (ltb w.worst b.worst) b.worst w.worst;
  row = cond (ltb w.worst b.worst) r w.row;
  people = w.people + b.people;
  cells = w.cells + b.cells;
}

-- the largest key of the map's row r
abbrev pub largest_key_in : List ℕ → List ℕ → ℕ → ℕ
largest_key_in counts marks r = max_below (λ c. key_at counts marks (map_columns * r + c)) map_columns

-- the worst cell of the row q is worse than that of the row p
abbrev pub row_worse : List ℕ → List ℕ → ℕ → ℕ → Bool
row_worse counts marks q p = ltb (largest_key_in counts marks p) (largest_key_in counts marks q)

-- the first worst of the first n rows
abbrev pub worst_row : List ℕ → List ℕ → ℕ → ℕ
worst_row counts marks n = first_best (row_worse counts marks) n

-- the first n map rows: the first worst row, and its largest key, 0 where there is no row
abbrev pub map_walk : List ℕ → List ℕ → ℕ → MapWalk
map_walk counts marks n = record {
  worst = cond (eqb n 0) 0 (largest_key_in counts marks (worst_row counts marks n));
  row = worst_row counts marks n;
  people = sum_below (people_at counts marks) (map_columns * n);
  cells = sum_below (mark_at marks) (map_columns * n);
}
