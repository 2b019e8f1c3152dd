-- The ends of factor and area against the exact ones, and through them the ends of the area's fifth power, which isn't multiplied out.
use mathlib.Core.Path.{◌≡◌}
use Prim.Native.Nat.{ℕ, ◌*◌, ◌^◌, ◌≤◌, ◌<◌}
use native.Mathlib.Nat.{mul-le-mul_right}
use native.Mathlib.Omega.{arith}
use lib.Dec.{lit<}
use Rattle.arithmetic.specs.Fraction.{Fraction, ◌over◌, plus, times, divided, ◌⊑◌}
use Rattle.arithmetic.proofs.FractionLaws.{refl_le, trans_le, times_mono, times_pos, times_assoc}
use Rattle.sheet.specs.Lines.{full_width}
use Rattle.exact_area.specs.ExactArea.{half_width}
use Rattle.high_angle.specs.SafetyFactor.{root_scale}
use Rattle.high_angle.specs.HighAngle.{area_num, area_den}
use Rattle.exact_high_angle.specs.ExactHighAngle.{root_factor, in_kilojoules, fifth_power, circle_of}
use Rattle.exact_high_angle.proofs.FifthPowers.{fifth_mono, fifth_times, fifth_pos}

-- a factor of so many thousandths
abbrev pub thousandths : ℕ → Fraction
thousandths f = f over 1000

module _ (x f w : ℕ) where
  pub area_low : x * area_den ≤ area_num (full_width w) f → x over 1 ⊑ times (thousandths f) (circle_of w)
  unfolding circle_of half_width plus divided times
  area_low h = omega arith

  pub area_high : area_num (full_width w) f ≤ x * area_den → times (thousandths f) (circle_of w) ⊑ x over 1
  unfolding circle_of half_width plus divided times
  area_high h = omega arith

pub circle_pos : (w : ℕ) → 0 < (circle_of w).den
unfolding circle_of half_width plus divided times
circle_pos w = lit< tt

module _ (e c : Fraction) (c_pos : 0 < c.den) where
  -- the fifth power of 1.4 × root × circle, as a product of three
  abbrev root_area : Fraction
  root_area = times (in_kilojoules e) (fifth_power (times root_factor c))

  apart : times (times (in_kilojoules e) (fifth_power root_factor)) (fifth_power c) ≡ root_area
  apart = rw (fifth_times root_factor c) (times_assoc _ _ _)

  factor_low : (f j : ℕ) → f ^ 5 ≤ root_scale * j → j over 1 ⊑ e → fifth_power (thousandths f) ⊑ times (in_kilojoules e) (fifth_power root_factor)
  unfolding fifth_power times divided
  factor_low f j h k = omega (arith, mul-le-mul_right e.den h)

  factor_high : (f j : ℕ) → root_scale * j ≤ f ^ 5 → e ⊑ j over 1 → times (in_kilojoules e) (fifth_power root_factor) ⊑ fifth_power (thousandths f)
  unfolding fifth_power times divided
  factor_high f j h k = omega (arith, mul-le-mul_right e.den h)

  middle_pos : (f : ℕ) → 0 < (times (fifth_power (thousandths f)) (fifth_power c)).den
  middle_pos f = times_pos (fifth_power (thousandths f)) (fifth_power c) (fifth_pos (thousandths f) (lit< tt)) (fifth_pos c c_pos)

  pub root_low : (x f j : ℕ) → x over 1 ⊑ times (thousandths f) c → f ^ 5 ≤ root_scale * j → j over 1 ⊑ e → fifth_power (x over 1) ⊑ root_area
  root_low x f j l h k =
      trans_le (fifth_power (x over 1)) (times (fifth_power (thousandths f)) (fifth_power c)) root_area (middle_pos f)
      (rw (fifth_times (thousandths f) c) at (fifth_mono (x over 1) (times (thousandths f) c) l))
      (rw apart at (times_mono _ _ _ _ (factor_low f j h k) (refl_le (fifth_power c))))

  pub root_high : (x f j : ℕ) → times (thousandths f) c ⊑ x over 1 → root_scale * j ≤ f ^ 5 → e ⊑ j over 1 → root_area ⊑ fifth_power (x over 1)
  root_high x f j l h k =
      trans_le root_area (times (fifth_power (thousandths f)) (fifth_power c)) (fifth_power (x over 1)) (middle_pos f)
      (rw apart at (times_mono _ _ _ _ (factor_high f j h k) (refl_le (fifth_power c))))
      (rw (fifth_times (thousandths f) c) at (fifth_mono (times (thousandths f) c) (x over 1) l))
