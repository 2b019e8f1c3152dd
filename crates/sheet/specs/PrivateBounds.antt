-- How large the lines get within the aircraft's ranges, so that every product fits 64 bits. Only private functions are stated by it.
use Rattle.std.specs.Prelude.{ℕ, ◌≤◌}
use Rattle.sheet.specs.Ranges.{dimension_max}
use Rattle.sheet.specs.Lines.{full_width, glide_of}
use Rattle.columns.specs.declared.Bracket.{Bracket}

abbrev pub a_max : ℕ
a_max = full_width dimension_max

-- the high glide
abbrev pub glide_max : ℕ
glide_max = glide_of.high

-- the high run at the highest speed
abbrev pub slide_max : ℕ
slide_max = 3082587895

-- a round number above every T
abbrev pub total_max : ℕ
total_max = 1000000000000000

-- both ends of a line are at most n
abbrev pub AtMost : Bracket → ℕ → Type 0
AtMost b n = (b.low ≤ n) × (b.high ≤ n)
