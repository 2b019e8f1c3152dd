-- The exact area lies between the low and the high one: low and high go through the formula by the laws of fractions, and nothing is multiplied out.
use Prim.Native.Nat.{ℕ, ◌-◌, ◌*◌, ◌^◌, ◌≤◌, ◌<◌}
use native.Mathlib.Omega.{arith}
use lib.Dec.{lit≤, lit<}
use Rattle.arithmetic.specs.Fraction.{Fraction, ◌over◌, plus, minus, times, divided, ◌⊑◌}
use Rattle.sheet.specs.declared.Formula.{Formula}
use Rattle.sheet.specs.declared.Formula.TheVariants.{Whole, SixTenths, GlideOnly}
use Rattle.sheet.specs.Lines.{full_width, glide_of, run_rate, run_scale, run_of, saving_of, slide_of, formula_of, area_den}
use Rattle.sheet.specs.Sheet.{lines_of}
use Rattle.sheet.proofs.FormulaLaws.{denominator_pos}
use Rattle.sheet.proofs.LineLaws.{run_rounded_down, run_rounded_up, saving_rounded_down, saving_rounded_up, area_num_at, area_rounded_down, area_rounded_up}
use Rattle.exact_area.specs.ExactArea.{exact_glide, speed_term, mass_term, friction, exact_slide, half_width, whole_area, exact_by, exact_area}
use Rattle.arithmetic.proofs.FractionLaws.{refl_le, trans_le, times_mono, divided_mono, minus_mono}
use Rattle.arithmetic.proofs.RoundingLaws.{rate}
use Rattle.exact_area.proofs.AreaMono.{area_mono}

-- a length of the sheet, in micrometres
abbrev micro : ℕ → Fraction
micro n = n over 1000000

glide_low : micro glide_of.low ⊑ exact_glide
unfolding exact_glide divided
glide_low = lit≤ tt

glide_high : exact_glide ⊑ micro glide_of.high
unfolding exact_glide divided
glide_high = lit≤ tt

-- The run's exact rate, in micrometres for each (cm/s)², is 532448828795² / (14715 × 10¹⁹). Over a variable for the line, and with nothing else in
-- reach: omega multiplies what it reads until its numbers pass 38 digits.
run_low_at : (x v : ℕ) → x * (14715 * 10 ^ 19) ≤ v * v * (532448828795 * 532448828795) → times (micro x) friction ⊑ speed_term v
unfolding friction speed_term times
run_low_at x v h = omega arith

run_low : (v : ℕ) → times (micro (run_of v).low) friction ⊑ speed_term v
run_low v =
    run_low_at (run_of v).low v
    (rate _ (v * v) run_scale run_rate.low (532448828795 * 532448828795) (14715 * 10 ^ 19) (lit< tt) (run_rounded_down v) (lit≤ tt))

run_high_at : (x v : ℕ) → v * v * (532448828795 * 532448828795) ≤ x * (14715 * 10 ^ 19) → speed_term v ⊑ times (micro x) friction
unfolding friction speed_term times
run_high_at x v h = omega arith

run_high : (v : ℕ) → speed_term v ⊑ times (micro (run_of v).high) friction
run_high v =
    run_high_at (run_of v).high v
    (rate (v * v) _ run_rate.high run_scale (14715 * 10 ^ 19) (532448828795 * 532448828795) (lit< tt) (run_rounded_up v) (lit≤ tt))

saving_low : (m : ℕ) → times (micro (saving_of m).low) friction ⊑ mass_term m
unfolding friction mass_term times divided
saving_low m = omega (arith, saving_rounded_down m)

saving_high : (m : ℕ) → 0 < m → mass_term m ⊑ times (micro (saving_of m).high) friction
unfolding friction mass_term times divided
saving_high m h = omega (arith, saving_rounded_up m h)

-- the slide of a run and a saving of the sheet
slide_at : ℕ → ℕ → Fraction
slide_at run saving = divided (minus (times (micro run) friction) (times (micro saving) friction)) friction

slide_from : (run saving : ℕ) → micro (run - saving) ⊑ slide_at run saving
unfolding slide_at divided minus times friction
slide_from run saving = omega arith

slide_to : (run saving : ℕ) → slide_at run saving ⊑ micro (run - saving)
unfolding slide_at divided minus times friction
slide_to run saving = omega arith

slide_den : (run saving : ℕ) → 0 < (slide_at run saving).den
unfolding slide_at divided minus times friction
slide_den run saving = lit< tt

slide_low : (m v : ℕ) → 0 < m → micro (slide_of (run_of v) (saving_of m)).low ⊑ exact_slide m v
unfolding exact_slide slide_at
slide_low m v h =
    trans_le (micro (slide_of (run_of v) (saving_of m)).low) (slide_at (run_of v).low (saving_of m).high) (exact_slide m v)
    (slide_den (run_of v).low (saving_of m).high) (slide_from (run_of v).low (saving_of m).high)
    (divided_mono _ _ _ _ (minus_mono _ _ _ _ (run_low v) (saving_high m h)) (refl_le friction))

slide_high : (m v : ℕ) → exact_slide m v ⊑ micro (slide_of (run_of v) (saving_of m)).high
unfolding exact_slide slide_at
slide_high m v =
    trans_le (exact_slide m v) (slide_at (run_of v).high (saving_of m).low) (micro (slide_of (run_of v) (saving_of m)).high)
    (slide_den (run_of v).high (saving_of m).low)
    (divided_mono _ _ _ _ (minus_mono _ _ _ _ (run_high v) (saving_low m)) (refl_le friction))
    (slide_to (run_of v).high (saving_of m).low)

width_from : (w : ℕ) → full_width w over 2000 ⊑ half_width w
unfolding half_width plus divided
width_from w = omega arith

width_to : (w : ℕ) → half_width w ⊑ full_width w over 2000
unfolding half_width plus divided
width_to w = omega arith

-- line 6 before it is rounded is the area's formula at lengths of the sheet
area_at : Formula → ℕ → ℕ → ℕ → Fraction
area_at f a glide slide = times (10000 over 1) (exact_by f (a over 2000) (micro glide) (micro slide))

line6 : Formula → ℕ → ℕ → ℕ → Fraction
line6 f a glide slide = area_num_at f a glide slide over area_den f

line6_from : (f : Formula) (a g s : ℕ) → line6 f a g s ⊑ area_at f a g s
unfolding line6 area_at exact_by whole_area plus times
line6_from Whole a g s = omega arith
line6_from SixTenths a g s = omega arith
line6_from GlideOnly a g s = omega arith

line6_to : (f : Formula) (a g s : ℕ) → area_at f a g s ⊑ line6 f a g s
unfolding line6 area_at exact_by whole_area plus times
line6_to Whole a g s = omega arith
line6_to SixTenths a g s = omega arith
line6_to GlideOnly a g s = omega arith

area_at_pos : (f : Formula) (a g s : ℕ) → 0 < (area_at f a g s).den
unfolding area_at exact_by whole_area plus times
area_at_pos Whole a g s = lit< tt
area_at_pos SixTenths a g s = lit< tt
area_at_pos GlideOnly a g s = lit< tt

-- The accuracy of line 6: the low area is at most the exact one, and the high one at least.
module _ (w m v : ℕ) where
  abbrev f : Formula
  f = formula_of w

  abbrev a : ℕ
  a = full_width w

  pub low_bound : 0 < m → (lines_of w m v).area.low over 1 ⊑ exact_area w m v
  unfolding exact_area area_at line6
  low_bound h =
      trans_le ((lines_of w m v).area.low over 1) (line6 f a g s) (exact_area w m v) (denominator_pos f) (omega (arith, area_rounded_down w m v))
      (trans_le (line6 f a g s) (area_at f a g s) (exact_area w m v) (area_at_pos f a g s) (line6_from f a g s)
      (times_mono (10000 over 1) _ (10000 over 1) _ (refl_le (10000 over 1))
      (area_mono f (a over 2000) (micro g) (micro s) (half_width w) exact_glide (exact_slide m v) (width_from w) glide_low (slide_low m v h))))
    where
      g : ℕ
      g = glide_of.low

      s : ℕ
      s = (slide_of (run_of v) (saving_of m)).low

  pub high_bound : exact_area w m v ⊑ (lines_of w m v).area.high over 1
  unfolding exact_area area_at line6
  high_bound =
      trans_le (exact_area w m v) (line6 f a g s) ((lines_of w m v).area.high over 1) (denominator_pos f)
      (trans_le (exact_area w m v) (area_at f a g s) (line6 f a g s) (area_at_pos f a g s)
      (times_mono (10000 over 1) _ (10000 over 1) _ (refl_le (10000 over 1))
      (area_mono f (half_width w) exact_glide (exact_slide m v) (a over 2000) (micro g) (micro s) (width_to w) glide_high (slide_high m v)))
      (line6_to f a g s))
      (omega (arith, area_rounded_up w m v))
    where
      g : ℕ
      g = glide_of.high

      s : ℕ
      s = (slide_of (run_of v) (saving_of m)).high
