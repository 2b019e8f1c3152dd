-- Within which numbers the private functions work, so that every product fits 64 bits. Only private functions are stated by it.
use Rattle.std.specs.Prelude.{ℕ, ◌+◌, ◌*◌, ◌≤◌}
use Rattle.columns.specs.declared.Bracket.{Bracket}
use Rattle.sheet.specs.Lines.{full_width}
use Rattle.frontal_area.specs.FrontalArea.{last_dimension}
use Rattle.high_angle.specs.SafetyFactor.{root_scale, root_to}

-- the largest number whose fifth power fits 64 bits
abbrev pub base_max : ℕ
base_max = 7131

-- the constant × 3,125,000, which is 7,000⁵
abbrev pub scaled_max : ℕ
scaled_max = root_scale * root_to

abbrev pub width_max : ℕ
width_max = full_width last_dimension

-- the two ends of the joules
pub record OneApart (joules : Bracket) : Type 0 where
  pub ordered : joules.low ≤ joules.high
  pub apart : joules.high ≤ joules.low + 1
