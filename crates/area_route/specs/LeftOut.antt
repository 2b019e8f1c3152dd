-- What holds at the two dimensions that AreaRoute leaves out. At both a pair of the size column ends just where a formula of the area begins.
use Rattle.std.specs.Prelude.{ℕ, ◌+◌, ◌≤◌, ◌<◌}
use Rattle.columns.specs.SizeColumn.{size_column_of}
use Rattle.sheet.specs.Ranges.{InRange}
use Rattle.area_route.specs.AreaRoute.{HasSizeColumn, ColumnsAtMost}

-- At every dimension, none left out, both columns are at most the size column of an aircraft one millimetre larger, where that one has one.
abbrev pub OneMillimetreLarger : Type 0
OneMillimetreLarger = (w m v : ℕ) → InRange w m v → 1 ≤ size_column_of (w + 1) v → ColumnsAtMost w m v (size_column_of (w + 1) v)

-- at a dimension that is left out, with the speed of the pair that ends there
pub record AtLeftOut (w speed : ℕ) : Type 0 where
  -- above that speed, the claim as at other dimensions
  pub faster : (m v : ℕ) → HasSizeColumn w m v → speed < v → ColumnsAtMost w m v (size_column_of w v)
  -- at every speed, one column above at most
  pub one_above : (m v : ℕ) → HasSizeColumn w m v → ColumnsAtMost w m v (size_column_of w v + 1)

-- "1,000 mm and 2,500 cm/s"; "8,000 and 7,500"
pub record BothLeftOut : Type 0 where
  pub at_1_metre : AtLeftOut 1000 2500
  pub at_8_metres : AtLeftOut 8000 7500
