-- A law of the column that a planner would check.
use Rattle.std.specs.Prelude.{◌↔◌, ℕ, ◌+◌, ◌≤◌, ◌<◌}
use Rattle.columns.specs.Column.{column_count, limit_at, last_limit, column_of}

-- within the last limit, the column is at most n + 1 exactly when the high area is at most that column's limit
abbrev pub ColumnAtMost : Type 0
ColumnAtMost =
    (high n : ℕ) → n < column_count → (high ≤ last_limit) × (column_of high ≤ n + 1) ↔ high ≤ limit_at n
