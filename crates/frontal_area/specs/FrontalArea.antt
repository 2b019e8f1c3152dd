-- The frontal area of a multirotor (document 02, item 2; table 7 of 002), and its refusal.
use Rattle.std.specs.Prelude.{Bool, cond, List, [], ◌∷◌, ◌++◌, ℕ, ◌+◌, ◌-◌, ◌*◌, ◌/◌, ◌≤◌, leb}
use Rattle.arithmetic.specs.Conditions.{outside}
use Rattle.refusal.specs.Refusals.{Test, ◌when◌}
use Rattle.sheet.specs.Ranges.{InRange}
use Rattle.sheet.specs.Sheet.{range_tests}

-- a frontal area in square millimetres, at a dimension in mm
pub record Point : Type 0 where
  pub area : ℕ
  pub dimension : ℕ

abbrev pub ◌at◌ : ℕ → ℕ → Point
area at dimension = record { area = area; dimension = dimension }

infix 70 ◌at◌
-- on the "straight line" between two points, "rounded down"
abbrev pub on_line : Point → Point → ℕ → ℕ
on_line p q w =
    p.area + (q.area - p.area) * (w - p.dimension) / (q.dimension - p.dimension)

-- on the first line that ends at or past the dimension. Before the first point it is that point's area, and past the last point that one's; such
-- dimensions are refused.
abbrev pub along_lines : Point → List Point → ℕ → ℕ
along_lines p [] w = p.area
along_lines p (q ∷ qs) w = cond (leb w q.dimension) (on_line p q w) (along_lines q qs w)

abbrev pub first_dimension : ℕ
first_dimension = 1000

abbrev pub last_dimension : ℕ
last_dimension = 40000

-- "The frontal area in square millimetres runs in straight lines between 100,000 at 1,000 mm, 500,000 at 3,000, 2,500,000 at 8,000, 12,500,000 at 20,000
-- and 25,000,000 at 40,000, rounded down."
unfoldable pub frontal_area_of : ℕ → ℕ
frontal_area_of w =
    along_lines (100000 at first_dimension)
    (500000 at 3000 ∷ 2500000 at 8000 ∷ 12500000 at 20000 ∷ 25000000 at last_dimension ∷ []) w

abbrev pub no_frontal_area : ℕ → Bool
no_frontal_area w = outside first_dimension last_dimension w

-- "16 when, after 1 to 3, the dimension is outside 1,000 to 40,000 mm."
abbrev pub frontal_tests : ℕ → List Test
frontal_tests w = 16 when no_frontal_area w ∷ []

abbrev pub multirotor_tests : ℕ → ℕ → ℕ → List Test
multirotor_tests w m v = range_tests w m v ++ frontal_tests w

-- an aircraft within its ranges that has a frontal area
pub record MultirotorInRange (w m v : ℕ) : Type 0 where
  pub ranges : InRange w m v
  pub dimension_least : first_dimension ≤ w
  pub dimension_most : w ≤ last_dimension
