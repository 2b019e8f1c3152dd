-- The three cases of the exact factor, each with the factors that the joules choose.
use mathlib.Core.Path.{◌≡◌, refl}
use mathlib.Core.Bool.{Bool, true, false, cond}
use Prim.Native.Nat.{ℕ, ◌*◌, ◌/◌, ◌≤◌, ◌<◌}
use native.Mathlib.Nat.{le_of_mul-le-mul_right, lt_of_mul-lt-mul_right}
use native.Mathlib.Omega.{arith}
use lib.Dec.{lit<}
use borrow.Author.Tests.{ltb-true, ltb-false}
use Rattle.arithmetic.specs.Rounding.{div_up}
use Rattle.arithmetic.specs.Fraction.{Fraction, ◌over◌, times, divided, ◌⊑◌}
use Rattle.arithmetic.proofs.FractionLaws.{refl_le, trans_le, times_mono, times_pos}
use Rattle.arithmetic.proofs.RoundingLaws.{down_low, up_high}
use Rattle.columns.specs.Bracket.{bracket}
use Rattle.frontal_area.specs.FrontalArea.{frontal_area_of}
use Rattle.high_angle.specs.SafetyFactor.{largest, smallest, root_from, root_to, factor_above, root_scale, low_factor, high_factor}
use Rattle.high_angle.specs.HighAngle.{energy_num, energy_den, area_den, joules_of, factor_of, area_of, accepted_with, accepted_high_angle}
use Rattle.high_angle.proofs.AnswerMade.{energy_den_pos}
use Rattle.high_angle.proofs.RootLaws.{largest_low, smallest_high}
use Rattle.high_angle.proofs.FactorLaws.{factor_below_lem, factor_above_lem, factor_between, scaled_most, low_most, high_least}
use Rattle.exact_high_angle.specs.ExactHighAngle.{lowest_factor, highest_factor, root_factor, in_kilojoules, ExactFactor, number, root_of, below, above, factor_at, exact_factor, exact_energy, circle_of, area_side, number_side}
use Rattle.exact_high_angle.specs.Accuracy.{LiesInBracket}
use Rattle.exact_high_angle.proofs.FifthPowers.{fifth_pos}
use Rattle.exact_high_angle.proofs.Energy.{floor_low, ceiling_high, floor_least, ceiling_most, energy_pos, energy_is}
use Rattle.exact_high_angle.proofs.Between.{thousandths, area_low, area_high, circle_pos, root_low, root_high}

-- what holds in each of the three cases of the energy holds of the factor
by_energy : (P : ExactFactor → Type 0) (e : Fraction) →
    (e.num < root_from * e.den → P (number lowest_factor)) → (root_to * e.den < e.num → P (number highest_factor)) →
    (root_from * e.den ≤ e.num → e.num ≤ root_to * e.den → P (root_of (in_kilojoules e))) → P (factor_at e)
unfolding factor_at
by_energy P e x y z = by_tests (below e root_from) (above e root_to) refl refl
  where
    by_tests : (b c : Bool) → below e root_from ≡ b → above e root_to ≡ c →
        P (cond b (number lowest_factor) (cond c (number highest_factor) (root_of (in_kilojoules e))))
    by_tests true c eb ec = x (ltb-true _ _ eb)
    by_tests false true eb ec = y (ltb-true _ _ ec)
    by_tests false false eb ec = z (ltb-false _ _ eb) (ltb-false _ _ ec)

-- a factor that is a number, between two of so many thousandths
within_number : (f : Fraction) (w low high fl fh : ℕ) → 0 < f.den → low over 1 ⊑ times (thousandths fl) (circle_of w) → times (thousandths fh) (circle_of w) ⊑ high over 1 →
    thousandths fl ⊑ f → f ⊑ thousandths fh → LiesInBracket (number f) (circle_of w) (bracket low high)
unfolding area_side number_side
within_number f w low high fl fh f-pos l h a b =
    record {
      denominator_above_zero = times_pos f (circle_of w) f-pos (circle_pos w);
      low_at_most =
          trans_le (low over 1) (times (thousandths fl) (circle_of w)) (times f (circle_of w)) (times_pos (thousandths fl) (circle_of w) (lit< tt) (circle_pos w)) l
          (times_mono _ _ _ _ a (refl_le (circle_of w)));
      high_at_least =
          trans_le (times f (circle_of w)) (times (thousandths fh) (circle_of w)) (high over 1) (times_pos (thousandths fh) (circle_of w) (lit< tt) (circle_pos w))
          (times_mono _ _ _ _ b (refl_le (circle_of w))) h;
    }

module _ (e : Fraction) (n d : ℕ) (pos : 0 < e.den) (d_pos : 0 < d) (same : e.num * d ≡ n * e.den) where
  abbrev j : ℕ
  j = n / d

  abbrev k : ℕ
  k = div_up n d

  joules_low : j over 1 ⊑ e
  joules_low = floor_low e n d pos d_pos same

  joules_high : e ⊑ k over 1
  joules_high = ceiling_high e n d pos d_pos same

  kilo_pos : 0 < (in_kilojoules e).den
  unfolding divided
  kilo_pos = omega arith

  module _ (w low high : ℕ) (l : low over 1 ⊑ times (thousandths (low_factor j)) (circle_of w)) (h : times (thousandths (high_factor k)) (circle_of w) ⊑ high over 1) where
    below_case : e.num < root_from * e.den → LiesInBracket (number lowest_factor) (circle_of w) (bracket low high)
    unfolding low_factor
    below_case t =
        let small : j < root_from = lt_of_mul-lt-mul_right e.den {m = j} {n = root_from} (omega (arith, joules_low))
        in within_number lowest_factor w low high (low_factor j) (high_factor k) (lit< tt) l h
        (omega (arith, factor_below_lem (largest factor_above) j small)) (omega (arith, high_least k))

    above_case : root_to * e.den < e.num → LiesInBracket (number highest_factor) (circle_of w) (bracket low high)
    unfolding high_factor
    above_case t =
        let large : root_to < k = lt_of_mul-lt-mul_right e.den {m = root_to} {n = k} (omega (arith, joules_high))
        in within_number highest_factor w low high (low_factor j) (high_factor k) (lit< tt) l h
        (omega (arith, low_most j)) (omega (arith, factor_above_lem (smallest factor_above) k large))

    between_case : root_from * e.den ≤ e.num → e.num ≤ root_to * e.den → LiesInBracket (root_of (in_kilojoules e)) (circle_of w) (bracket low high)
    unfolding area_side number_side low_factor high_factor
    between_case s t =
        let j_least : root_from ≤ j = floor_least e n d pos d_pos same root_from s
        in let j_most : j ≤ root_to = le_of_mul-le-mul_right {k = e.den} (omega (arith, joules_low)) pos
        in let k_least : root_from ≤ k = le_of_mul-le-mul_right {k = e.den} (omega (arith, joules_high)) pos
        in let k_most : k ≤ root_to = ceiling_most e n d pos d_pos same root_to t
        in record {
          denominator_above_zero =
              times_pos (in_kilojoules e) _ kilo_pos (fifth_pos _ (times_pos root_factor (circle_of w) (lit< tt) (circle_pos w)));
          low_at_most =
              root_low e (circle_of w) (circle_pos w) low (low_factor j) j l
              (rw (factor_between (largest factor_above) j j_least j_most) (largest_low (root_scale * j) factor_above)) joules_low;
          high_at_least =
              root_high e (circle_of w) (circle_pos w) high (high_factor k) k h
              (rw (factor_between (smallest factor_above) k k_least k_most) (smallest_high (root_scale * k) factor_above (scaled_most k k_most))) joules_high;
        }

    within : LiesInBracket (factor_at e) (circle_of w) (bracket low high)
    within = by_energy (λ f. LiesInBracket f (circle_of w) (bracket low high)) e below_case above_case between_case

pub lies_in : (w m : ℕ) → LiesInBracket (exact_factor w m) (circle_of w) (accepted_high_angle w m).area
unfolding accepted_high_angle accepted_with area_of factor_of joules_of
lies_in w m =
    within (exact_energy w m) (energy_num m) (energy_den (frontal_area_of w)) (energy_pos w m) (energy_den_pos w) (energy_is w m) w _ _
    (area_low _ _ w (down_low _ area_den)) (area_high _ _ w (up_high _ area_den (lit< tt)))
