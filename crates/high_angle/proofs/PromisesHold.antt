-- What is promised of every high impact angle answer.
use mathlib.Core.Path.{◌≡◌, refl}
use Prim.Native.Nat.{ℕ, ◌*◌, ◌/◌, ◌≤◌}
use native.Mathlib.Nat.{mul-le-mul, mul-le-mul_right, le_trans}
use native.Mathlib.Omega.{arith}
use lib.Dec.{leb, lit<, lit≤}
use borrow.Author.Tests.{le-leb}
use Rattle.arithmetic.specs.Rounding.{div_up}
use Rattle.refusal.proofs.RefusalLaws.{first_exactly_when}
use Rattle.refusal.proofs.RefusalsHold.{answer_promise}
use Rattle.arithmetic.proofs.RoundingLaws.{down_mono, up_mono, rounded_apart}
use Rattle.columns.specs.Column.{last_limit, column_of}
use Rattle.columns.proofs.ColumnLaws.{column_in_table, column_max, flag_at_most_one}
use Rattle.sheet.specs.Lines.{full_width}
use Rattle.frontal_area.specs.FrontalArea.{last_dimension, frontal_area_of, multirotor_tests}
use Rattle.frontal_area.proofs.PromisesHold.{frontal_area_promise, multirotor_refusal}
use Rattle.high_angle.specs.SafetyFactor.{root_to, root_scale, factor_above}
use Rattle.high_angle.specs.HighAngle.{energy_num, energy_den, joules_of, factor_of, area_den, area_of, accepted_with, accepted_high_angle, refused_high_angle, high_angle_of}
use Rattle.high_angle.specs.Promises.{HighAnglePromise, AcceptedExactlyWhen, AcceptedRanges, RootsOfAllNumbers, AreaGrows, HighAngleLaws}
use Rattle.high_angle.specs.PrivateBounds.{OneApart}
use Rattle.high_angle.proofs.AnswerMade.{energy_den_pos, joules_fit, largest_area}
use Rattle.high_angle.proofs.RootLaws.{largest_low, largest_high, smallest_high, smallest_low, power_at_most}
use Rattle.high_angle.proofs.FactorLaws.{scaled_most, low_least, high_most, factors_apart, factors_ordered, low_mono, high_mono}

accepted_0 : (w m : ℕ) → (accepted_high_angle w m).refusal ≡ 0
unfolding accepted_high_angle accepted_with
accepted_0 w m = refl

pub high_angle_promise : (w m v : ℕ) → HighAnglePromise w m v
unfolding high_angle_of
high_angle_promise w m v = answer_promise (accepted_high_angle w m) refused_high_angle _ (accepted_0 w m) (λ n. refl) (multirotor_tests w m v) refl

accepted : (w m v : ℕ) → AcceptedExactlyWhen w m v
accepted w m v =
    let exactly = (high_angle_promise w m v).exactly_when 0 in
    let first = first_exactly_when (multirotor_tests w m v) refl 0 in
    let none = (multirotor_refusal w m v).none in
    (λ e. none.0 (first.1 (exactly.0 e)), λ h. exactly.1 (first.0 (none.1 h)))

module _ (w m : ℕ) where
  accepted_joules : OneApart (accepted_high_angle w m).joules
  unfolding accepted_high_angle accepted_with
  accepted_joules = joules_fit w m refl refl

  ordered : (f g x : ℕ) → f ≤ g → f * x / area_den ≤ div_up (g * x) area_den
  ordered f g x h =
      le_trans (down_mono (f * x) (g * x) area_den (lit< tt) (mul-le-mul_right x h)) (rounded_apart (g * x) area_den (lit< tt)).0

  column_least : (high : ℕ) → high ≤ last_limit → 1 ≤ column_of high
  unfolding column_of
  column_least high h = (column_in_table (leb high) (le-leb high last_limit h)).0

  accepted_ranges : w ≤ last_dimension → AcceptedRanges (accepted_high_angle w m)
  unfolding accepted_high_angle accepted_with area_of factor_of
  accepted_ranges h =
      let j = joules_of (frontal_area_of w) m in
      let joules = accepted_joules in
      let factors = factors_ordered j.low j.high joules.ordered in
      let high = high_most j.high in
      let within = largest_area (full_width w) _ (omega arith) high in
      record {
        column_least = column_least _ (le_trans within (lit≤ tt));
        column_most = column_max _;
        flag = flag_at_most_one _ _;
        frontal_area_least = frontal_area_promise.least w;
        frontal_area_most = frontal_area_promise.most w;
        joules_ordered = joules.ordered;
        joules_apart = joules.apart;
        factor_least = low_least j.low;
        factor_ordered = factors;
        factor_apart = factors_apart j.low j.high joules.ordered joules.apart;
        factor_most = high;
        area_ordered = ordered _ _ (157 * (full_width w * full_width w)) factors;
        area_most = within;
      }

roots : (j : ℕ) → j ≤ root_to → RootsOfAllNumbers j
roots j h =
    let x = root_scale * j in
    record {
      low_at_most = largest_low x factor_above;
      low_largest = λ n p. largest_high x factor_above n (power_at_most n factor_above (le_trans p (scaled_most j h))) p;
      high_at_least = smallest_high x factor_above (scaled_most j h);
      high_smallest = λ n p. smallest_low x factor_above n p;
    }

grows : (w m m' : ℕ) → m ≤ m' → AreaGrows w m m'
unfolding accepted_high_angle accepted_with area_of factor_of joules_of
grows w m m' h =
    let energy : energy_num m ≤ energy_num m' = mul-le-mul_right 981 (mul-le-mul h h) in
    let pos = energy_den_pos w in
    record {
      low = down_mono _ _ area_den (lit< tt) (mul-le-mul_right _ (low_mono _ _ (down_mono _ _ (energy_den (frontal_area_of w)) pos energy)));
      high = up_mono _ _ area_den (lit< tt) (mul-le-mul_right _ (high_mono _ _ (up_mono _ _ (energy_den (frontal_area_of w)) pos energy)));
    }

ranges : (w m v : ℕ) → (high_angle_of w m v).refusal ≡ 0 → AcceptedRanges (high_angle_of w m v)
ranges w m v e =
    rw ((high_angle_promise w m v).if_accepted e) (accepted_ranges w m ((accepted w m v).0 e).dimension_most)

pub high_angle_laws : HighAngleLaws
high_angle_laws = record { accepted = accepted; ranges = ranges; roots = roots; grows = grows }
