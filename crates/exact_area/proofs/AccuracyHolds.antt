-- Demand 3 on areas and columns, of the answers of `sheet_of`.
use mathlib.Core.Path.{◌≡◌, ap}
use Prim.Native.Nat.{ℕ, ◌-◌, ◌≤◌, ◌<◌}
use native.Mathlib.Nat.{mul-le-mul_right}
use native.Mathlib.Omega.{arith}
use lib.Dec.{lit<}
use Rattle.arithmetic.specs.Fraction.{Fraction, ◌over◌, times, plus, minus, divided}
use Rattle.arithmetic.specs.Rounding.{div_up}
use Rattle.arithmetic.proofs.FractionLaws.{plus_pos, times_pos}
use Rattle.columns.specs.Column.{last_limit}
use Rattle.columns.proofs.ExactColumnHolds.{exact_column_lem}
use Rattle.sheet.specs.Ranges.{InRange}
use Rattle.sheet.specs.declared.Formula.{Formula}
use Rattle.sheet.specs.declared.Formula.TheVariants.{Whole, SixTenths, GlideOnly}
use Rattle.sheet.specs.Sheet.{lines_of, sheet_of}
use Rattle.sheet.specs.declared.SheetAnswer.{SheetAnswer}
use Rattle.sheet.specs.Acceptance.{RefusedExactlyWhen}
use Rattle.sheet.proofs.AcceptanceHolds.{refused_exactly_when, sheet_promise}
use Rattle.sheet.proofs.LineLaws.{area_width, lines_column, lines_flag}
use Rattle.exact_area.specs.ExactArea.{exact_glide, speed_term, mass_term, friction, exact_slide, half_width, whole_area, exact_by, exact_area, under, exact_column}
use Rattle.exact_area.specs.Accuracy.{AreaIsAccurate, ColumnIsAccurate, AboveLastLimitLess7, SheetIsAccurate}
use Rattle.exact_area.proofs.Between.{low_bound, high_bound}
use Rattle.exact_area.proofs.FractionInBracket.{lies_in, meets_at_most_one}

slide_pos : (m v : ℕ) → 0 < m → 0 < (exact_slide m v).den
unfolding exact_slide speed_term mass_term friction minus divided times
slide_pos m v h = omega arith

width_pos : (w : ℕ) → 0 < (half_width w).den
unfolding half_width plus divided
width_pos w = lit< tt

glide_pos : 0 < exact_glide.den
unfolding exact_glide divided
glide_pos = lit< tt

whole_pos : (d g s : Fraction) → 0 < d.den → 0 < g.den → 0 < s.den → 0 < (whole_area d g s).den
unfolding whole_area
whole_pos d g s hd hg hs =
    plus_pos _ _ (times_pos _ _ (times_pos (2 over 1) d (lit< tt) hd) (plus_pos g s hg hs))
    (times_pos (314 over 100) _ (lit< tt) (times_pos d d hd hd))

in_pos : (f : Formula) (d g s : Fraction) → 0 < d.den → 0 < g.den → 0 < s.den → 0 < (exact_by f d g s).den
unfolding exact_by
in_pos Whole d g s hd hg hs = whole_pos d g s hd hg hs
in_pos SixTenths d g s hd hg hs = times_pos (6 over 10) _ (lit< tt) (whole_pos d g s hd hg hs)
in_pos GlideOnly d g s hd hg hs =
    plus_pos _ _ (times_pos _ _ (times_pos (2 over 1) d (lit< tt) hd) hg)
    (times_pos (1 over 2) _ (lit< tt) (times_pos (314 over 100) _ (lit< tt) (times_pos d d hd hd)))

-- the exact area is a fraction: its denominator is above zero
pub exact_pos : (w m v : ℕ) → 0 < m → 0 < (exact_area w m v).den
unfolding exact_area
exact_pos w m v h =
    times_pos (10000 over 1) _ (lit< tt)
    (in_pos _ (half_width w) exact_glide (exact_slide m v) (width_pos w) glide_pos (slide_pos m v h))

lines_area : (w m v : ℕ) → InRange w m v → AreaIsAccurate w m v (lines_of w m v)
unfolding div_up
lines_area w m v r =
    record {
      denominator_above_zero = exact_pos w m v (omega arith);
      low_at_most = low_bound w m v (omega arith);
      high_at_least = high_bound w m v;
      width = omega (arith, area_width w m v r);
      width_to_8_metres = λ h. omega (arith, area_width w m v r);
    }

lines_columns : (w m v : ℕ) → InRange w m v → (lines_of w m v).area.high ≤ last_limit → ColumnIsAccurate w m v (lines_of w m v)
unfolding exact_column
lines_columns w m v r fits =
    let accurate = lines_area w m v r in
    let area = (lines_of w m v).area in
    rw (lines_flag w m v, lines_column w m v)
    (exact_column_lem area (under (exact_area w m v)) (lies_in (exact_area w m v) area accurate.denominator_above_zero accurate.low_at_most accurate.high_at_least) (meets_at_most_one area accurate.width) fits)

pub sheet_is_accurate : (w m v : ℕ) → SheetIsAccurate w m v
sheet_is_accurate w m v =
    record {
      area = λ e. rw (accepted e) (lines_area w m v (refusal.none.0 e).0);
      column = λ e. rw (accepted e) (lines_columns w m v (refusal.none.0 e).0 (refusal.none.0 e).1);
      refusal_4 = λ e. four (refusal.four.0 e);
    }
  where
    refusal : RefusedExactlyWhen w m v
    refusal = refused_exactly_when w m v

    accepted : (sheet_of w m v).refusal ≡ 0 → (sheet_of w m v).sheet ≡ lines_of w m v
    accepted e = ap (λ (a : SheetAnswer). a.sheet) ((sheet_promise w m v).if_accepted e)

    four : InRange w m v × (last_limit < (lines_of w m v).area.high) → AboveLastLimitLess7 w m v
    four h =
        let a : AreaIsAccurate w m v (lines_of w m v) = lines_area w m v h.0
        in let l : last_limit - 7 < (lines_of w m v).area.low = omega arith
        in omega (arith, mul-le-mul_right (exact_area w m v).den l)
