-- Brackets: a number rounded down and up, between which the exact one lies.
use Rattle.std.specs.Prelude.{ℕ, ◌/◌}
use Rattle.arithmetic.specs.Rounding.{div_up}
use Rattle.columns.specs.declared.Bracket.{Bracket}

abbrev pub bracket : ℕ → ℕ → Bracket
bracket low high = record { low = low; high = high }

-- two numerators over one denominator: "low rounded down and high rounded up"
abbrev pub rounded_outward : ℕ → ℕ → ℕ → Bracket
rounded_outward low high d = bracket (low / d) (div_up high d)
