-- The numbers of the descent, in f64 (document 02, item 4).
use Rattle.std.specs.Prelude.{false, ℕ, pos, Float}
use Rattle.std.specs.Float.{binary64}
use Rattle.std.specs.Float.Ieee.{round, of_int, div}
use Rattle.arithmetic.specs.Fraction.{Fraction}

-- a decimal of the item: the f64 nearest to it
unfoldable pub decimal : Fraction → Float
decimal x = round binary64 false x.num x.den

-- a whole number as an f64
abbrev pub whole : ℕ → Float
whole n = of_int binary64 (pos n)

-- "Inputs become metres, kilograms and square metres by one division each." Of cm and cm/s by 100, of g by 1,000, of square millimetres by 1,000,000.
unfoldable pub divided_by : ℕ → ℕ → Float
divided_by d n = div binary64 (whole n) (whole d)

abbrev pub in_metres : ℕ → Float
in_metres = divided_by 100

abbrev pub in_kilograms : ℕ → Float
in_kilograms = divided_by 1000

abbrev pub in_square_metres : ℕ → Float
in_square_metres = divided_by 1000000
