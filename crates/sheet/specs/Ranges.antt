-- The aircraft's ranges (document 01, "The aircraft and its area").
use Rattle.std.specs.Prelude.{ℕ, ◌≤◌}

-- "Dimension w is 50 to 100,000 mm."
abbrev pub dimension_min : ℕ
dimension_min = 50

abbrev pub dimension_max : ℕ
dimension_max = 100000

-- "Mass m is 50 to 25,000,000 g."
abbrev pub mass_min : ℕ
mass_min = 50

abbrev pub mass_max : ℕ
mass_max = 25000000

-- "Speed v is 0 to 40,000 cm/s."
abbrev pub speed_max : ℕ
speed_max = 40000

-- an aircraft within its ranges
pub record InRange (w m v : ℕ) : Type 0 where
  pub dimension_least : dimension_min ≤ w
  pub dimension_most : w ≤ dimension_max
  pub mass_least : mass_min ≤ m
  pub mass_most : m ≤ mass_max
  pub speed_most : v ≤ speed_max
