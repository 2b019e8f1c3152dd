-- The answer as the code makes it, each number from those before it: their bounds, and the answer that they make.
use mathlib.Core.Path.{◌≡◌}
use Prim.Native.Nat.{ℕ, ◌≤◌, ◌<◌}
use native.Mathlib.Nat.{mul-le-mul, mul-le-mul_left, le_trans}
use native.Mathlib.Omega.{arith}
use lib.Dec.{lit<, lit≤}
use Rattle.arithmetic.specs.Rounding.{div_up}
use Rattle.arithmetic.proofs.RoundingLaws.{up_le, rounded_apart}
use Rattle.columns.specs.Column.{last_limit, column_and_flag_of}
use Rattle.columns.specs.declared.Bracket.{Bracket}
use Rattle.columns.specs.declared.ColumnAndFlag.{ColumnAndFlag}
use Rattle.sheet.specs.Lines.{full_width}
use Rattle.frontal_area.specs.FrontalArea.{last_dimension, frontal_area_of}
use Rattle.frontal_area.proofs.PromisesHold.{frontal_area_promise}
use Rattle.high_angle.specs.SafetyFactor.{factor_above}
use Rattle.high_angle.specs.HighAngle.{energy_num, energy_den, area_num, area_den, joules_of, factor_of, area_of, accepted_with, accepted_high_angle}
use Rattle.high_angle.specs.PrivateBounds.{OneApart}
use Rattle.high_angle.proofs.FactorLaws.{low_most, high_most}

pub energy_den_pos : (w : ℕ) → 0 < energy_den (frontal_area_of w)
energy_den_pos w = omega (arith, frontal_area_promise.least w)

pub largest_area : (a g : ℕ) → a ≤ full_width last_dimension → g ≤ factor_above → div_up (area_num a g) area_den ≤ 90577382
largest_area a g h k = up_le 90577382 _ area_den (lit< tt) (le_trans (mul-le-mul k (mul-le-mul_left 157 (mul-le-mul h h))) (lit≤ tt))

module _ (w m : ℕ) {frontal : ℕ} (a : frontal ≡ frontal_area_of w) where
  pub frontal_fits : (0 < frontal) × (frontal ≤ 25000000)
  frontal_fits = omega (arith, frontal_area_promise.least w, frontal_area_promise.most w)

  module _ {joules : Bracket} (j : joules ≡ joules_of frontal m) where
    pub joules_fit : OneApart joules
    unfolding joules_of
    joules_fit =
        let apart = rounded_apart (energy_num m) (energy_den frontal) (omega (arith, frontal_fits.0)) in
        rw j record { ordered = apart.0; apart = apart.1 }

    module _ {factor : Bracket} (f : factor ≡ factor_of joules) where
      pub factor_fits : (factor.low ≤ factor_above) × (factor.high ≤ factor_above)
      unfolding factor_of
      factor_fits = rw f (low_most joules.low, high_most joules.high)

      -- so that it has a column
      pub area_fits : w ≤ last_dimension → {area : Bracket} → area ≡ area_of (full_width w) factor → area.high ≤ last_limit
      unfolding area_of
      area_fits h e = rw e (le_trans (largest_area (full_width w) factor.high (omega arith) factor_fits.1) (lit≤ tt))

      pub answer_made : {area : Bracket} → area ≡ area_of (full_width w) factor → {found : ColumnAndFlag} → found ≡ column_and_flag_of area →
          record { refusal = 0; column = found.column; flag = found.flag; frontal_area = frontal; joules = joules; factor = factor; area = area } ≡ accepted_high_angle w m
      unfolding accepted_high_angle accepted_with
      answer_made e g = cc
