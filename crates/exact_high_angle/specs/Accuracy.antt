-- "The accuracy rule now covers this model" (document 02, item 2): what holds of every accepted multirotor.
use Rattle.std.specs.Prelude.{◌≡◌, ◌↔◌, ℕ, ◌+◌, ◌-◌, ◌*◌, ◌≤◌, ◌<◌}
use Rattle.arithmetic.specs.Fraction.{Fraction, times}
use Rattle.columns.specs.Column.{last_limit}
use Rattle.columns.specs.ExactColumn.{ColumnAgrees}
use Rattle.columns.specs.declared.Bracket.{Bracket}
use Rattle.high_angle.specs.declared.HighAngle.{HighAngle}
use Rattle.high_angle.specs.HighAngle.{high_angle_of}
use Rattle.exact_high_angle.specs.ExactHighAngle.{root_factor, ExactFactor, number, root_of, exact_factor, circle_of, fifth_power, area_side, AtLeast, AtMost, exact_column}

-- "the exact area, with the exact energy from that frontal area, lies in the bracket": in all three cases of the factor
pub record LiesInBracket (factor : ExactFactor) (circle : Fraction) (area : Bracket) : Type 0 where
  pub denominator_above_zero : 0 < (area_side factor circle).den
  pub low_at_most : AtLeast factor circle area.low
  pub high_at_least : AtMost factor circle area.high

-- no wider than one part in so many of the high area plus 2 square centimetres
abbrev pub NoWiderThanOnePartIn : ℕ → Bracket → Type 0
NoWiderThanOnePartIn parts area = parts * (area.high - area.low) ≤ area.high + parts * 2

-- the sharpest such width in whole parts
abbrev pub sharpest_parts : ℕ
sharpest_parts = 1151

pub record AreaIsAccurate (w m : ℕ) (area : Bracket) : Type 0 where
  pub lies_in : LiesInBracket (exact_factor w m) (circle_of w) area
  -- "the bracket is no wider than one part in 500 of the high area plus 2 square centimetres"
  pub width : NoWiderThanOnePartIn 500 area
  pub sharpest_width : NoWiderThanOnePartIn sharpest_parts area
  -- "show that refusal 4 never occurs here"
  pub within_last_limit : area.high ≤ last_limit

-- unflagged, the column is the exact one; flagged, it is that or the next higher
abbrev pub ColumnIsAccurate : ℕ → ℕ → HighAngle → Type 0
ColumnIsAccurate w m s = ColumnAgrees (exact_column w m) s.column s.flag

-- for whatever three numbers
pub record HighAngleIsAccurate (w m v : ℕ) : Type 0 where
  pub area : (high_angle_of w m v).refusal ≡ 0 → AreaIsAccurate w m (high_angle_of w m v).area
  pub column : (high_angle_of w m v).refusal ≡ 0 → ColumnIsAccurate w m (high_angle_of w m v)
  pub never_4 : (high_angle_of w m v).refusal ≡ 4 → ⊥

-- one part more is too many for an accepted multirotor: that of 34,164 mm and 159,990 g, whose joules are 11,999 and 12,000
pub record SharpestWidth : Type 0 where
  pub accepted : (high_angle_of 34164 159990 0).refusal ≡ 0
  pub wider : NoWiderThanOnePartIn (sharpest_parts + 1) (high_angle_of 34164 159990 0).area → ⊥

-- the fifth root of a number of kJ is a fraction
pub record FifthRootIs (kilojoules root : Fraction) : Type 0 where
  pub kilojoules_denominator_above_zero : 0 < kilojoules.den
  pub root_denominator_above_zero : 0 < root.den
  pub equal : kilojoules.num * (fifth_power root).den ≡ (fifth_power root).num * kilojoules.den

-- what the comparison by fifth powers means: then it is the comparison of the numbers themselves
pub record ComparesAsNumbers (kilojoules root circle : Fraction) (n : ℕ) : Type 0 where
  pub at_least : AtLeast (root_of kilojoules) circle n ↔ AtLeast (number (times root_factor root)) circle n
  pub at_most : AtMost (root_of kilojoules) circle n ↔ AtMost (number (times root_factor root)) circle n

abbrev pub FifthPowersCompareNumbers : Type 0
FifthPowersCompareNumbers =
    (kilojoules root circle : Fraction) (n : ℕ) → FifthRootIs kilojoules root → 0 < circle.den → ComparesAsNumbers kilojoules root circle n
