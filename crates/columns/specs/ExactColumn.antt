-- What the column and the flag of a bracket say of the exact column. The exact area need be no fraction: it is known by a test that tells of each limit
-- whether the area is under it, that is at most the limit.
use Rattle.std.specs.Prelude.{◌≡◌, Bool, true, ◌⊎◌, ℕ, ◌+◌, ◌≤◌, ◌<◌}
use Rattle.columns.specs.Column.{column_count, limit_at, last_limit, column_by, column_and_flag_of}
use Rattle.columns.specs.declared.Bracket.{Bracket}

-- the exact area lies in the bracket, as far as tests of whole numbers tell
pub record LiesIn (area : Bracket) (under : ℕ → Bool) : Type 0 where
  pub low_at_most : (limit : ℕ) → under limit ≡ true → area.low ≤ limit
  pub high_at_least : (limit : ℕ) → area.high ≤ limit → under limit ≡ true

-- at most one limit is at least the low area and below the high one: where a limit is below the high area, the one before it is below the low area
abbrev pub MeetsAtMostOneLimit : Bracket → Type 0
MeetsAtMostOneLimit area = (i : ℕ) → i + 1 < column_count → limit_at (i + 1) < area.high → limit_at i < area.low

-- demand 3: "When the sheet is unflagged, the two columns are equal", "When it is flagged, the sheet's column is the exact one or the next higher"
pub record ColumnAgrees (exact column flag : ℕ) : Type 0 where
  pub exact_in_table : (1 ≤ exact) × (exact ≤ column_count)
  pub flag_zero_or_one : flag ≤ 1
  pub unflagged : flag ≡ 0 → exact ≡ column
  pub flagged : flag ≡ 1 → (exact ≡ column) ⊎ (exact + 1 ≡ column)

-- they do for every area, and every test of it, that lies in a bracket which meets at most one limit and ends within the last
abbrev pub ExactColumnLaw : Type 0
ExactColumnLaw =
    (area : Bracket) (under : ℕ → Bool) → LiesIn area under → MeetsAtMostOneLimit area → area.high ≤ last_limit
    → ColumnAgrees (column_by under) (column_and_flag_of area).column (column_and_flag_of area).flag
