-- The exact area, "as a fraction" in metres, m/s and kg, never rounded. Formulas (1) to (10) are those of chapter 4 of the EASA guideline (002).
use Rattle.std.specs.Prelude.{Bool, ℕ, ◌*◌, leb}
use Rattle.arithmetic.specs.Fraction.{Fraction, ◌over◌, plus, minus, times, divided}
use Rattle.columns.specs.Column.{column_by}
use Rattle.sheet.specs.declared.Formula.{Formula}
use Rattle.sheet.specs.declared.Formula.TheVariants.{Whole, SixTenths, GlideOnly}
use Rattle.sheet.specs.Lines.{formula_of}

-- "tan is 0.7002075382, cos is 0.8191520443 (35 degrees, ten places; these decimals are the definition)"
abbrev pub tan : Fraction
tan = 7002075382 over 10000000000

abbrev pub cos : Fraction
cos = 8191520443 over 10000000000

-- "Glide is 1.8 / tan metres." Formula (5).
unfoldable pub exact_glide : Fraction
exact_glide = divided (18 over 10) tan

-- "(0.65 × cos × V)²", V in m/s from cm/s. Formulas (7) and (8), with the coefficient of restitution.
unfoldable pub speed_term : ℕ → Fraction
speed_term v =
    let rebound = times (times (65 over 100) cos) (v over 100)
    in times rebound rebound

-- "580 / M", M in kg from grams: the square of the non-lethal speed. Formula (10).
unfoldable pub mass_term : ℕ → Fraction
mass_term m = divided (580 over 1) (m over 1000)

-- "2 × 0.75 × 9.81"
unfoldable pub friction : Fraction
friction = times (times (2 over 1) (75 over 100)) (981 over 100)

-- "slide is ((0.65 × cos × V)² − 580 / M) / (2 × 0.75 × 9.81) metres, or 0 where that is negative. This is what formulas (6) to (10) of 002 come to"
unfoldable pub exact_slide : ℕ → ℕ → Fraction
exact_slide m v = divided (minus (speed_term v) (mass_term m)) friction

-- "Let D be 0.3 + half the dimension, in metres." Formula (4).
unfoldable pub half_width : ℕ → Fraction
half_width w = plus (3 over 10) (divided (w over 1000) (2 over 1))

-- "2 × D × (glide + slide) + 3.14 × D²". Formula (1).
unfoldable pub whole_area : Fraction → Fraction → Fraction → Fraction
whole_area d glide slide =
    plus (times (times (2 over 1) d) (plus glide slide)) (times (314 over 100) (times d d))

-- The first case is that, the second "six tenths of the same", the third "2 × D × glide + half of 3.14 × D². No slide." Formulas (1), (2) and (3). Which
-- case a dimension takes is said once, in sheet Lines: `formula_of`.
unfoldable pub exact_by : Formula → Fraction → Fraction → Fraction → Fraction
exact_by Whole d glide slide = whole_area d glide slide
exact_by SixTenths d glide slide = times (6 over 10) (whole_area d glide slide)
exact_by GlideOnly d glide slide =
    plus (times (times (2 over 1) d) glide) (times (1 over 2) (times (314 over 100) (times d d)))

-- "the exact area in square centimetres: 10,000 times the one above, never rounded. It stands as a whole numerator over a whole denominator"
unfoldable pub exact_area : ℕ → ℕ → ℕ → Fraction
exact_area w m v = times (10000 over 1) (exact_by (formula_of w) (half_width w) exact_glide (exact_slide m v))

-- a fraction is at most a limit, "compared by cross products"
abbrev pub under : Fraction → ℕ → Bool
under x limit = leb x.num (limit * x.den)

-- "The exact column is the first whose area limit is at least this fraction"
unfoldable pub exact_column : ℕ → ℕ → ℕ → ℕ
exact_column w m v = column_by (under (exact_area w m v))
