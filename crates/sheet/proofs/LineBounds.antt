-- Bounds of the sheet's lines over the accepted range: every number fits 64 bits. And the largest area without slide.
use mathlib.Core.Path.{◌≡◌}
use Prim.Native.Nat.{ℕ, ◌≤◌}
use native.Mathlib.Nat.{mul-le-mul, add-le-add}
use native.Mathlib.Omega.{arith}
use lib.Dec.{lit<}
use Rattle.arithmetic.specs.Rounding.{div_up}
use Rattle.arithmetic.proofs.RoundingLaws.{up_le}
use Rattle.columns.specs.Column.{limit_at}
use Rattle.sheet.specs.Ranges.{dimension_max, speed_max}
use Rattle.sheet.specs.PrivateBounds.{a_max, glide_max, slide_max, total_max, AtMost}
use Rattle.sheet.specs.declared.Formula.TheVariants.{GlideOnly}
use Rattle.sheet.specs.Lines.{full_width, glide_of, run_of, saving_of, slide_of, total_at, total_of, formula_of, glide_only_at, area_den, area_of}
use Rattle.sheet.specs.Sheet.{lines_of, with_lines, lines_with_size_column}
use Rattle.sheet.proofs.FormulaLaws.{glide_only_below}

pub run_max : (v : ℕ) → v ≤ speed_max → AtMost (run_of v) slide_max
unfolding run_of div_up
run_max v h = omega (arith, mul-le-mul h h)

pub slide_max_lem : (m v : ℕ) → v ≤ speed_max → AtMost (slide_of (run_of v) (saving_of m)) slide_max
slide_max_lem m v h = omega (arith, run_max v h)

total_at_max : (a g s : ℕ) → a ≤ a_max → g ≤ glide_max → s ≤ slide_max → total_at a g s ≤ total_max
total_at_max a g s ha hg hs = omega (arith, mul-le-mul ha (add-le-add hg hs), mul-le-mul ha ha)

-- the glide counted twice
pub glide_total_max : (a : ℕ) → a ≤ a_max → AtMost (total_of a glide_of glide_of) total_max
unfolding total_of
glide_total_max a h = (total_at_max a glide_of.low glide_of.low h (omega arith) (omega arith), total_at_max a glide_of.high glide_of.high h (omega arith) (omega arith))

pub total_max_lem : (w m v : ℕ) → w ≤ dimension_max → v ≤ speed_max →
    AtMost (total_of (full_width w) glide_of (slide_of (run_of v) (saving_of m))) total_max
unfolding total_of
total_max_lem w m v hw hv = (
  total_at_max (full_width w) _ _ (omega arith) (omega arith) (slide_max_lem m v hv).0,
  total_at_max (full_width w) _ _ (omega arith) (omega arith) (slide_max_lem m v hv).1,
)

-- without slide the area is within the first limit
pub glide_only_area : (w m v : ℕ) → formula_of w ≡ GlideOnly → (lines_of w m v).area.high ≤ limit_at 0
unfolding lines_with_size_column with_lines area_of
glide_only_area w m v e =
    rw e (up_le 65000 (glide_only_at (full_width w) glide_of.high) (area_den GlideOnly) (lit< tt) (omega (arith, glide_only_below w e, mul-le-mul (glide_only_below w e) (glide_only_below w e))))
