-- The high impact angle area of a multirotor and its refusals (document 02, item 2; chapter 5 of 002).
use Rattle.std.specs.Prelude.{ℕ, ◌*◌, Result}
use Rattle.refusal.specs.Numbers.{answer_as}
use Rattle.refusal.specs.Refusals.{answered}
use Rattle.refusal.specs.declared.Refusal.{Refusal}
use Rattle.columns.specs.Bracket.{bracket, rounded_outward}
use Rattle.columns.specs.Column.{column_and_flag_of}
use Rattle.columns.specs.declared.Bracket.{Bracket}
use Rattle.sheet.specs.Lines.{full_width}
use Rattle.frontal_area.specs.FrontalArea.{frontal_area_of, multirotor_tests}
use Rattle.high_angle.specs.SafetyFactor.{low_factor, high_factor}
use Rattle.high_angle.specs.declared.HighAngle.{HighAngle}
use Rattle.high_angle.specs.declared.HighAngleArea.{HighAngleArea}

-- "The energy at terminal speed is mass² × 9.81 / (1.225 × 0.8 × frontal area), in kg and square metres; keep it in whole joules, down and up." Of grams and
-- square millimetres it is mass² × 981 / (98 × frontal area).
abbrev pub energy_num : ℕ → ℕ
energy_num m = m * m * 981

abbrev pub energy_den : ℕ → ℕ
energy_den frontal = 98 * frontal

unfoldable pub joules_of : ℕ → ℕ → Bracket
joules_of frontal m = rounded_outward (energy_num m) (energy_num m) (energy_den frontal)

-- the low factor of "the low joules", the high factor of "the high joules"
unfoldable pub factor_of : Bracket → Bracket
factor_of joules = bracket (low_factor joules.low) (high_factor joules.high)

-- "the area is the safety factor × 3.14 × D²", and D is half the full width a: of a factor in thousandths and an a in mm it is factor × 157 × a² / 20,000,000
-- square centimetres
abbrev pub area_num : ℕ → ℕ → ℕ
area_num a factor = factor * (157 * (a * a))

abbrev pub area_den : ℕ
area_den = 20000000

-- "Area low and high follow in square centimetres, rounded outward."
unfoldable pub area_of : ℕ → Bracket → Bracket
area_of a factor = rounded_outward (area_num a factor.low) (area_num a factor.high) area_den

-- "The answer holds frontal area, joules, factor and area, the last three low and high, with column and flag as on the old sheet"
unfoldable pub accepted_with : ℕ → Bracket → Bracket → Bracket → HighAngle
accepted_with frontal joules factor area =
    record {
      refusal = 0;
      column = (column_and_flag_of area).column;
      flag = (column_and_flag_of area).flag;
      frontal_area = frontal;
      joules = joules;
      factor = factor;
      area = area;
    }

-- the answer for a multirotor that isn't refused, of its dimension and mass
unfoldable pub accepted_high_angle : ℕ → ℕ → HighAngle
accepted_high_angle w m =
    let joules = joules_of (frontal_area_of w) m
    in let factor = factor_of joules
    in accepted_with (frontal_area_of w) joules factor (area_of (full_width w) factor)

-- "After a refusal every number is zero" (demand 1)
abbrev pub refused_high_angle : ℕ → HighAngle
refused_high_angle n =
    record {
      refusal = n;
      column = 0;
      flag = 0;
      frontal_area = 0;
      joules = bracket 0 0;
      factor = bracket 0 0;
      area = bracket 0 0;
    }

-- refusals 1 to 3 and then 16; "show that refusal 4 never occurs here" (exact_high_angle)
unfoldable pub high_angle_of : ℕ → ℕ → ℕ → HighAngle
high_angle_of w m v = answered (multirotor_tests w m v) (accepted_high_angle w m) refused_high_angle

-- what an answer of the code stands for: "a definition tells you this paper's number and values for each of its cases"
abbrev pub accepted_answer : HighAngleArea → HighAngle
accepted_answer s =
    record {
      refusal = 0;
      column = s.column;
      flag = s.flag;
      frontal_area = s.frontal_area;
      joules = s.joules;
      factor = s.factor;
      area = s.area;
    }

abbrev pub high_angle_answer : Result HighAngleArea Refusal → HighAngle
high_angle_answer = answer_as accepted_answer refused_high_angle
