-- What the test of the head counts reads off one map row. Only private functions are stated by it.
use Rattle.std.specs.Prelude.{Bool, List, ℕ}
use Rattle.arithmetic.specs.Conditions.{any_below}
use Rattle.map.specs.Size.{map_columns}
use Rattle.map.specs.Refusals.{above_range}

-- one of a map row's 64 counts is above its range
abbrev pub wrong_row : List ℕ → Bool
wrong_row counts = any_below (above_range counts) map_columns
