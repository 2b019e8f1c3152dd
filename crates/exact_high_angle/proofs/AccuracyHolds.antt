-- The accuracy rule, of the answers of `high_angle_of`.
use mathlib.Core.Path.{◌≡◌, refl, ap₂}
use Prim.Native.Nat.{ℕ, ◌*◌, ◌<◌}
use native.Mathlib.Nat.{le_trans}
use native.Mathlib.Omega.{arith}
use lib.Dec.{lit≤, lit<}
use Rattle.arithmetic.specs.Fraction.{Fraction, ◌over◌, times, ◌⊑◌}
use Rattle.arithmetic.proofs.FractionLaws.{refl_le, trans_le, times_mono, times_pos}
use Rattle.arithmetic.specs.Rounding.{div_up}
use Rattle.columns.proofs.ExactColumnHolds.{exact_column_lem}
use Rattle.sheet.specs.Lines.{full_width}
use Rattle.frontal_area.specs.FrontalArea.{frontal_area_of}
use Rattle.high_angle.specs.SafetyFactor.{largest, smallest, low_factor, high_factor}
use Rattle.high_angle.specs.HighAngle.{joules_of, factor_of, area_of, accepted_with, accepted_high_angle, high_angle_of}
use Rattle.high_angle.specs.Promises.{AcceptedRanges}
use Rattle.high_angle.proofs.PromisesHold.{high_angle_promise, high_angle_laws}
use Rattle.exact_high_angle.specs.ExactHighAngle.{root_factor, exact_factor, circle_of, fifth_power, area_side, number_side, at_most, exact_column}
use Rattle.exact_high_angle.specs.Accuracy.{NoWiderThanOnePartIn, sharpest_parts, AreaIsAccurate, ColumnIsAccurate, HighAngleIsAccurate, SharpestWidth, FifthRootIs, ComparesAsNumbers, FifthPowersCompareNumbers}
use Rattle.exact_high_angle.proofs.FifthPowers.{fifth_mono, fifth_order, fifth_times, fifth_pos}
use Rattle.exact_high_angle.proofs.LiesInBracket.{lies_in}
use Rattle.exact_high_angle.proofs.Width.{width_at, no_wider_than_one_in_500, meets_at_most_one}
use Rattle.exact_high_angle.proofs.ComparedSides.{lies_in_by_test}

module _ (w m : ℕ) (ranges : AcceptedRanges (accepted_high_angle w m)) where
  sharpest : NoWiderThanOnePartIn sharpest_parts (accepted_high_angle w m).area
  unfolding accepted_high_angle accepted_with area_of
  sharpest = width_at _ _ (157 * (full_width w * full_width w)) ranges.factor_least ranges.factor_apart

  accepted_area : AreaIsAccurate w m (accepted_high_angle w m).area
  accepted_area =
      record {
        lies_in = lies_in w m;
        width = no_wider_than_one_in_500 _ sharpest;
        sharpest_width = sharpest;
        within_last_limit = le_trans ranges.area_most (lit≤ tt);
      }

  accepted_column : ColumnIsAccurate w m (accepted_high_angle w m)
  unfolding exact_column accepted_high_angle accepted_with
  accepted_column =
      let area = (accepted_high_angle w m).area in
      exact_column_lem area (at_most (exact_factor w m) (circle_of w)) (lies_in_by_test _ _ area (lies_in w m)) (meets_at_most_one area accepted_area.width) accepted_area.within_last_limit

pub high_angle_is_accurate : (w m v : ℕ) → HighAngleIsAccurate w m v
high_angle_is_accurate w m v =
    record {
      area = λ e. rw (answer e) (accepted_area w m (ranges e));
      column = λ e. rw (answer e) (accepted_column w m (ranges e));
      never_4 = λ e. let none_left = (((high_angle_promise w m v).exactly_when 4).0 e).1.1.1.1 in absurd (omega arith);
    }
  where
    answer : (high_angle_of w m v).refusal ≡ 0 → high_angle_of w m v ≡ accepted_high_angle w m
    answer e = (high_angle_promise w m v).if_accepted e

    ranges : (high_angle_of w m v).refusal ≡ 0 → AcceptedRanges (accepted_high_angle w m)
    ranges e = rw (answer e) at (high_angle_laws.ranges w m v e)

pub sharpest_width : SharpestWidth
unfolding high_angle_of accepted_high_angle accepted_with area_of factor_of joules_of frontal_area_of low_factor high_factor largest smallest div_up
sharpest_width = record { accepted = refl; wider = λ h. absurd (omega arith) }

module _ (kilojoules root c : Fraction) (n : ℕ) (is : FifthRootIs kilojoules root) (c_pos : 0 < c.den) where
  -- the area by the root as a fraction, and its fifth power
  abbrev area : Fraction
  area = times root (times root_factor c)

  area_is : times (times root_factor root) c ≡ area
  unfolding times
  area_is = ap₂ (λ (x d : ℕ). x over d) (omega arith) (omega arith)

  abbrev circle_power : Fraction
  circle_power = fifth_power (times root_factor c)

  circle_power_pos : 0 < circle_power.den
  circle_power_pos = fifth_pos (times root_factor c) (times_pos root_factor c (lit< tt) c_pos)

  -- the area's fifth power, by the kJ and by the root
  power_from : times kilojoules circle_power ⊑ fifth_power area
  power_from = rw (fifth_times root (times root_factor c)) (times_mono kilojoules circle_power (fifth_power root) circle_power (omega (arith, is.equal)) (refl_le circle_power))

  power_to : fifth_power area ⊑ times kilojoules circle_power
  power_to = rw (fifth_times root (times root_factor c)) (times_mono (fifth_power root) circle_power kilojoules circle_power (omega (arith, is.equal)) (refl_le circle_power))

  kilojoules_pos : 0 < (times kilojoules circle_power).den
  kilojoules_pos = times_pos kilojoules circle_power is.kilojoules_denominator_above_zero circle_power_pos

  area_pos : 0 < (fifth_power area).den
  area_pos = fifth_pos area (times_pos root (times root_factor c) is.root_denominator_above_zero (times_pos root_factor c (lit< tt) c_pos))

  compares : ComparesAsNumbers kilojoules root c n
  unfolding area_side number_side
  compares =
      let number = n over 1 in
      let power = fifth_power number in
      record {
        at_least = (
          λ h. rw area_is (fifth_order number area (trans_le power (times kilojoules circle_power) (fifth_power area) kilojoules_pos h power_from)),
          λ h. trans_le power (fifth_power area) (times kilojoules circle_power) area_pos (fifth_mono number area (rw area_is at h)) power_to,
        );
        at_most = (
          λ h. rw area_is (fifth_order area number (trans_le (fifth_power area) (times kilojoules circle_power) power kilojoules_pos power_to h)),
          λ h. trans_le (times kilojoules circle_power) (fifth_power area) power area_pos power_from (fifth_mono area number (rw area_is at h)),
        );
      }

pub compares_as_numbers : FifthPowersCompareNumbers
compares_as_numbers = compares
