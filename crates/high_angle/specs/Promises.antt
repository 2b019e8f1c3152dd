-- What is promised of every high impact angle answer.
use Rattle.std.specs.Prelude.{◌≡◌, ◌↔◌, ℕ, ◌+◌, ◌*◌, ◌^◌, ◌≤◌}
use Rattle.refusal.specs.Refusals.{AnswerPromise}
use Rattle.columns.specs.Column.{column_count}
use Rattle.frontal_area.specs.FrontalArea.{multirotor_tests, MultirotorInRange}
use Rattle.high_angle.specs.declared.HighAngle.{HighAngle}
use Rattle.high_angle.specs.SafetyFactor.{largest, smallest, root_to, root_scale, factor_below, factor_above}
use Rattle.high_angle.specs.HighAngle.{accepted_high_angle, refused_high_angle, high_angle_of}

-- each refusal exactly when its test is the first that holds; it is 0 or one of 1, 2, 3 and 16; an accepted answer is the dimension's and the mass's, and a
-- refused one is all zeros
abbrev pub HighAnglePromise : ℕ → ℕ → ℕ → Type 0
HighAnglePromise w m v =
    AnswerPromise (λ (a : HighAngle). a.refusal) (multirotor_tests w m v) (accepted_high_angle w m) refused_high_angle (high_angle_of w m v)

-- the same of none, by the ranges
abbrev pub AcceptedExactlyWhen : ℕ → ℕ → ℕ → Type 0
AcceptedExactlyWhen w m v = (high_angle_of w m v).refusal ≡ 0 ↔ MultirotorInRange w m v

-- how large the numbers of an accepted answer are. The largest area is that of 40,000 mm at a factor of 7.
pub record AcceptedRanges (s : HighAngle) : Type 0 where
  pub column_least : 1 ≤ s.column
  pub column_most : s.column ≤ column_count
  pub flag : s.flag ≤ 1
  pub frontal_area_least : 100000 ≤ s.frontal_area
  pub frontal_area_most : s.frontal_area ≤ 25000000
  pub joules_ordered : s.joules.low ≤ s.joules.high
  pub joules_apart : s.joules.high ≤ s.joules.low + 1
  pub factor_least : factor_below ≤ s.factor.low
  pub factor_ordered : s.factor.low ≤ s.factor.high
  pub factor_apart : s.factor.high ≤ s.factor.low + 2
  pub factor_most : s.factor.high ≤ factor_above
  pub area_ordered : s.area.low ≤ s.area.high
  pub area_most : s.area.high ≤ 90577382

-- the search up to 7,000 cuts nothing off: of all whole numbers, the low root is "the largest whole number whose fifth power is at most" the constant × the
-- joules, and the high one "the smallest whose fifth power is at least" that
pub record RootsOfAllNumbers (joules : ℕ) : Type 0 where
  pub low_at_most : largest factor_above (root_scale * joules) ^ 5 ≤ root_scale * joules
  pub low_largest : (n : ℕ) → n ^ 5 ≤ root_scale * joules → n ≤ largest factor_above (root_scale * joules)
  pub high_at_least : root_scale * joules ≤ smallest factor_above (root_scale * joules) ^ 5
  pub high_smallest : (n : ℕ) → root_scale * joules ≤ n ^ 5 → smallest factor_above (root_scale * joules) ≤ n

-- more mass never lowers an area
pub record AreaGrows (w m m' : ℕ) : Type 0 where
  pub low : (accepted_high_angle w m).area.low ≤ (accepted_high_angle w m').area.low
  pub high : (accepted_high_angle w m).area.high ≤ (accepted_high_angle w m').area.high

pub record HighAngleLaws : Type 0 where
  pub accepted : (w m v : ℕ) → AcceptedExactlyWhen w m v
  pub ranges : (w m v : ℕ) → (high_angle_of w m v).refusal ≡ 0 → AcceptedRanges (high_angle_of w m v)
  pub roots : (joules : ℕ) → joules ≤ root_to → RootsOfAllNumbers joules
  pub grows : (w m m' : ℕ) → m ≤ m' → AreaGrows w m m'
