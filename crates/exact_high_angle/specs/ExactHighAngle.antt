-- The exact high impact angle area (document 02, item 2; chapter 5 of 002), in metres, kg and kJ, never rounded.
use Rattle.std.specs.Prelude.{Bool, cond, ℕ, ◌*◌, ◌^◌, leb, ltb}
use Rattle.arithmetic.specs.Fraction.{Fraction, ◌over◌, times, divided, ◌⊑◌}
use Rattle.columns.specs.Column.{column_by}
use Rattle.exact_area.specs.ExactArea.{half_width}
use Rattle.frontal_area.specs.FrontalArea.{frontal_area_of}
use Rattle.high_angle.specs.SafetyFactor.{root_from, root_to}

-- "The energy at terminal speed is mass² × 9.81 / (1.225 × 0.8 × frontal area), in kg and square metres", from grams and square millimetres: "the exact
-- energy from that frontal area". Formulas (12) and (13).
unfoldable pub exact_energy : ℕ → ℕ → Fraction
exact_energy w m =
    let mass = m over 1000
    in let frontal = frontal_area_of w over 1000000
    in divided (times (times mass mass) (981 over 100)) (times (times (1225 over 1000) (8 over 10)) frontal)

-- a fraction is below, or above, a whole number
abbrev pub below : Fraction → ℕ → Bool
below x n = ltb x.num (n * x.den)

abbrev pub above : Fraction → ℕ → Bool
above x n = ltb (n * x.den) x.num

-- "2.3", "7", "1.4"
abbrev pub lowest_factor : Fraction
lowest_factor = 23 over 10

abbrev pub highest_factor : Fraction
highest_factor = 7 over 1

abbrev pub root_factor : Fraction
root_factor = 14 over 10

-- "the energy in kJ"
abbrev pub in_kilojoules : Fraction → Fraction
in_kilojoules energy = divided energy (1000 over 1)

-- a factor that is a number, or that is 1.4 times the fifth root of a number of kJ
pub data ExactFactor : Type 0 where
  number : Fraction → ExactFactor
  root_of : Fraction → ExactFactor

-- "The factor is 2.3 below 12,000 J and 7 above 3,125,000 J. Between them it is 1.4 times the fifth root of the energy in kJ." Table 6.
unfoldable pub factor_at : Fraction → ExactFactor
factor_at energy =
    cond (below energy root_from) (number lowest_factor)
    (cond (above energy root_to) (number highest_factor) (root_of (in_kilojoules energy)))

abbrev pub exact_factor : ℕ → ℕ → ExactFactor
exact_factor w m = factor_at (exact_energy w m)

-- "3.14 × D²", in square centimetres: what the factor multiplies. Formula (11).
unfoldable pub circle_of : ℕ → Fraction
circle_of w = times (10000 over 1) (times (314 over 100) (times (half_width w) (half_width w)))

unfoldable pub fifth_power : Fraction → Fraction
fifth_power x = (x.num ^ 5) over (x.den ^ 5)

-- "Where the fifth root isn't a fraction, "lies in" compares fifth powers." So the area, which is the factor × the circle, and a whole number stand in a
-- comparison as themselves, or each by its fifth power; that of 1.4 × root × circle is the kJ × (1.4 × circle)⁵.
unfoldable pub area_side : ExactFactor → Fraction → Fraction
area_side (number factor) circle = times factor circle
area_side (root_of kilojoules) circle = times kilojoules (fifth_power (times root_factor circle))

unfoldable pub number_side : ExactFactor → ℕ → Fraction
number_side (number factor) n = n over 1
number_side (root_of kilojoules) n = fifth_power (n over 1)

-- the exact area is at least a whole number of square centimetres, and at most
abbrev pub AtLeast : ExactFactor → Fraction → ℕ → Type 0
AtLeast factor circle n = number_side factor n ⊑ area_side factor circle

abbrev pub AtMost : ExactFactor → Fraction → ℕ → Type 0
AtMost factor circle n = area_side factor circle ⊑ number_side factor n

-- the second as a test
abbrev pub at_most : ExactFactor → Fraction → ℕ → Bool
at_most factor circle n =
    leb ((area_side factor circle).num * (number_side factor n).den) ((number_side factor n).num * (area_side factor circle).den)

-- the first column whose area limit is at least the exact area
unfoldable pub exact_column : ℕ → ℕ → ℕ
exact_column w m = column_by (at_most (exact_factor w m) (circle_of w))
