-- Laws of the size column that a planner would check.
use Rattle.std.specs.Prelude.{◌≡◌, false, ◌↔◌, ℕ, zero, suc, ◌+◌, ◌≤◌, ◌<◌}
use Rattle.columns.specs.Column.{column_count}
use Rattle.columns.specs.SizeColumn.{size_pair_at, large_enough, size_column_of}

-- how high a size column stands: 0, where none is large enough, counts as the highest
abbrev pub size_rank : ℕ → ℕ
size_rank zero = column_count + 1
size_rank (suc n) = suc n

-- it is at most n + 1, and not 0, exactly when the pair of column n + 1 is large enough
abbrev pub SizeColumnAtMost : ℕ → ℕ → ℕ → Type 0
SizeColumnAtMost w v n =
    (1 ≤ size_column_of w v) × (size_column_of w v ≤ n + 1) ↔ (w ≤ (size_pair_at n).dimension) × (v ≤ (size_pair_at n).speed)

pub record SizeColumnPromise : Type 0 where
  -- "0 where none is large enough", and one of the five else
  pub none : (w v : ℕ) → size_column_of w v ≡ 0 ↔ ((n : ℕ) → n < column_count → large_enough w v (size_pair_at n) ≡ false)
  pub in_table : (w v : ℕ) → size_column_of w v ≤ column_count
  pub at_most : (w v n : ℕ) → n < column_count → SizeColumnAtMost w v n
  -- a dimension and a speed that aren't larger never give a higher one
  pub grows : (w w' v v' : ℕ) → w ≤ w' → v ≤ v' → size_rank (size_column_of w v) ≤ size_rank (size_column_of w' v')
