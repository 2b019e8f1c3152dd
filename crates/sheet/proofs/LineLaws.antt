-- Laws of the lines: what each is the rounding of, and how far its two ends lie apart.
use mathlib.Core.Path.{◌≡◌, refl}
use Prim.Native.Nat.{ℕ, ◌+◌, ◌*◌, ◌/◌, ◌≤◌, ◌<◌}
use native.Mathlib.Nat.{mul-le-mul, mul-le-mul_left}
use native.Mathlib.Omega.{arith}
use lib.Dec.{lit<}
use Rattle.arithmetic.specs.Rounding.{div_up}
use Rattle.arithmetic.proofs.RoundingLaws.{down_low, down_high, up_high, up_le}
use Rattle.columns.specs.SizeColumn.{size_column_of}
use Rattle.columns.specs.Column.{column_of, flag_of}
use Rattle.sheet.specs.Ranges.{speed_max, InRange}
use Rattle.sheet.specs.declared.Formula.{Formula}
use Rattle.sheet.specs.declared.Formula.TheVariants.{Whole, SixTenths, GlideOnly}
use Rattle.sheet.specs.Lines.{full_width, glide_of, run_rate, run_scale, run_of, saving_times_mass, saving_of, slide_of, total_at, total_of, formula_of, glide_only_at, area_num, area_den, area_of}
use Rattle.sheet.specs.Sheet.{lines_of, with_lines, lines_with_size_column}
use Rattle.sheet.proofs.FormulaLaws.{denominator_pos}

-- ---- the low end at most, the high end at least, what is rounded

pub run_rounded_down : (v : ℕ) → (run_of v).low * run_scale ≤ v * v * run_rate.low
unfolding run_of
run_rounded_down v = down_low (v * v * run_rate.low) run_scale

pub run_rounded_up : (v : ℕ) → v * v * run_rate.high ≤ (run_of v).high * run_scale
unfolding run_of
run_rounded_up v = up_high (v * v * run_rate.high) run_scale (lit< tt)

pub saving_rounded_down : (m : ℕ) → (saving_of m).low * m ≤ saving_times_mass.low
unfolding saving_of
saving_rounded_down m = down_low saving_times_mass.low m

pub saving_rounded_up : (m : ℕ) → 0 < m → saving_times_mass.high ≤ (saving_of m).high * m
unfolding saving_of
saving_rounded_up m h = up_high saving_times_mass.high m h

-- line 6 before it is rounded, of one end of glide and slide
abbrev pub area_num_at : Formula → ℕ → ℕ → ℕ → ℕ
area_num_at f a glide slide = area_num f a glide (total_at a glide slide)

module _ (w m v : ℕ) where
  pub area_rounded_down : (lines_of w m v).area.low * area_den (formula_of w) ≤ area_num_at (formula_of w) (full_width w) glide_of.low (slide_of (run_of v) (saving_of m)).low
  unfolding lines_with_size_column with_lines area_of total_of
  area_rounded_down = down_low _ (area_den (formula_of w))

  pub area_rounded_up : area_num_at (formula_of w) (full_width w) glide_of.high (slide_of (run_of v) (saving_of m)).high ≤ (lines_of w m v).area.high * area_den (formula_of w)
  unfolding lines_with_size_column with_lines area_of total_of
  area_rounded_up = up_high _ (area_den (formula_of w)) (denominator_pos (formula_of w))

  -- the column and the flag are those of the area
  pub lines_column : (lines_of w m v).column ≡ column_of (lines_of w m v).area.high
  unfolding lines_with_size_column with_lines
  lines_column = refl

  pub lines_flag : (lines_of w m v).flag ≡ flag_of (lines_of w m v).area.low (column_of (lines_of w m v).area.high)
  unfolding lines_with_size_column with_lines
  lines_flag = refl

  -- the size column is the aircraft's own
  pub lines_size_column : (lines_of w m v).size_column ≡ size_column_of w v
  unfolding lines_with_size_column with_lines
  lines_size_column = refl

-- ---- how far the ends lie apart

run_width : (v : ℕ) → v ≤ speed_max → (run_of v).high ≤ (run_of v).low + 3
unfolding run_of div_up
run_width v h = omega (arith, mul-le-mul h h)

saving_width : (m : ℕ) → 0 < m → (saving_of m).high ≤ (saving_of m).low + 1
unfolding saving_of
saving_width m h =
    up_le (saving_times_mass.low / m + 1) saving_times_mass.high m h (omega (arith, down_high saving_times_mass.low m h))

slide_width : (m v : ℕ) → 0 < m → v ≤ speed_max →
    (slide_of (run_of v) (saving_of m)).high ≤ (slide_of (run_of v) (saving_of m)).low + 4
slide_width m v hm hv = omega (arith, run_width v hv, saving_width m hm)

total_width : (a g s t : ℕ) → t ≤ s + 4 → total_at a (g + 1) t ≤ total_at a g s + 5 * a
total_width a g s t h = omega (arith, mul-le-mul_left a h)

-- a numerator's two ends, as far apart as each formula's, rounded outward
whole_width : (x y a : ℕ) → y ≤ x + 5 * a → div_up y (area_den Whole) ≤ x / area_den Whole + 1 + div_up a 20000
unfolding div_up
whole_width x y a h = omega arith

six_tenths_width : (x y a : ℕ) → y ≤ x + 15 * a → div_up y (area_den SixTenths) ≤ x / area_den SixTenths + 1 + div_up a 20000
unfolding div_up
six_tenths_width x y a h = omega arith

glide_only_width : (x y a : ℕ) → y ≤ x + 2 * a → div_up y (area_den GlideOnly) ≤ x / area_den GlideOnly + 1 + div_up a 20000
unfolding div_up
glide_only_width x y a h = omega arith

formula_width : (f : Formula) (a g s t : ℕ) → t ≤ s + 4 →
    div_up (area_num_at f a (g + 1) t) (area_den f) ≤ area_num_at f a g s / area_den f + 1 + div_up a 20000
formula_width Whole a g s t h = whole_width _ _ a (total_width a g s t h)
formula_width SixTenths a g s t h =
    six_tenths_width (3 * total_at a g s) (3 * total_at a (g + 1) t) a (omega (arith, mul-le-mul_left 3 (total_width a g s t h)))
formula_width GlideOnly a g s t h = glide_only_width (glide_only_at a g) (glide_only_at a (g + 1)) a (omega arith)

-- the two areas differ by at most a twenty-thousandth of the full width, rounded up, and one
pub area_width : (w m v : ℕ) → InRange w m v → (lines_of w m v).area.high ≤ (lines_of w m v).area.low + 1 + div_up (full_width w) 20000
unfolding lines_with_size_column with_lines area_of total_of
area_width w m v r = formula_width (formula_of w) (full_width w) glide_of.low _ _ (slide_width m v (omega arith) r.speed_most)
