-- Document 02, item 7: "Sales tell crews that the area column is never above the size column. Show it for every aircraft in range for which one of the five
-- pairs is large enough, and that refusal 4 doesn't come to it. Since the cuts moved it fails at exactly 1,000 and 8,000 mm: leave those two out".
use Rattle.std.specs.Prelude.{◌≡◌, ℕ, ◌≤◌}
use Rattle.columns.specs.SizeColumn.{size_column_of}
use Rattle.sheet.specs.Ranges.{InRange}
use Rattle.sheet.specs.Sheet.{sheet_of}
use Rattle.exact_area.specs.ExactArea.{exact_column}

-- "every aircraft in range for which one of the five pairs is large enough": its size column, which its sheet shows, isn't 0
pub record HasSizeColumn (w m v : ℕ) : Type 0 where
  pub in_range : InRange w m v
  pub pair_large_enough : 1 ≤ size_column_of w v

-- "leave those two out"
pub record NotLeftOut (w : ℕ) : Type 0 where
  pub not_1_metre : w ≡ 1000 → ⊥
  pub not_8_metres : w ≡ 8000 → ⊥

-- The sheet isn't refused, by 4 or otherwise, and its column, "the area column", is at most c. So is the exact column of demand 3, whether the sheet is
-- flagged or not; it is 0 where there is none, and there is one.
pub record ColumnsAtMost (w m v c : ℕ) : Type 0 where
  pub accepted : (sheet_of w m v).refusal ≡ 0
  pub column : (sheet_of w m v).sheet.column ≤ c
  pub exact : exact_column w m v ≤ c
  pub exact_found : 1 ≤ exact_column w m v

abbrev pub NeverAboveSizeColumn : Type 0
NeverAboveSizeColumn = (w m v : ℕ) → HasSizeColumn w m v → NotLeftOut w → ColumnsAtMost w m v (size_column_of w v)
