-- The area of an aircraft that a pair takes in is within the limit of the pair's column, but where the pair ends just where a formula begins. Areas grow with
-- mass and speed, and within one formula with the dimension: so the heaviest at the pair's speed decides, at the largest dimension of each formula.
use mathlib.Core.Path.{◌≡◌, refl, sym, ◌∙◌}
use mathlib.Core.Bool.{Bool, true, ◌||◌}
use mathlib.Core.Logic.{⊎_elim}
use Prim.Native.Nat.{ℕ, min, ◌-◌, ◌≤◌, ◌<◌}
use native.Mathlib.Nat.{le_trans}
use native.Mathlib.Omega.{arith}
use lib.Dec.{leb}
use borrow.Author.Tests.{leb-true, lt-leb}
use Rattle.arithmetic.specs.Rounding.{div_up}
use Rattle.arithmetic.proofs.TestLaws.{lt_or_le, all_below_lem}
use Rattle.columns.specs.Column.{column_count, limit_at}
use Rattle.columns.specs.SizeColumn.{size_pair_at}
use Rattle.columns.proofs.LimitLaws.{limit_mono}
use Rattle.sheet.specs.Ranges.{dimension_max, mass_max, InRange}
use Rattle.sheet.specs.Lines.{whole_from, six_tenths_from, run_of, saving_of, total_of, formula_of, area_of}
use Rattle.sheet.specs.Sheet.{lines_of, with_lines, lines_with_size_column}
use Rattle.sheet.proofs.FormulaLaws.{takes_whole, takes_six_tenths, takes_glide_only}
use Rattle.sheet.proofs.GrowthHolds.{area_grows_in_one_formula}
use Rattle.sheet.proofs.LineBounds.{glide_only_area}

-- of the dimensions up to `last` that pair n takes in, the largest
abbrev largest : ℕ → ℕ → ℕ
largest last n = min last (size_pair_at n).dimension

abbrev largest_area : ℕ → ℕ → ℕ
largest_area last n = (lines_of (largest last n) mass_max (size_pair_at n).speed).area.high

-- within the limit, wherever the pair goes beyond the first dimension of the formula
abbrev fits : ℕ → ℕ → ℕ → Bool
fits first last n = leb (size_pair_at n).dimension first || leb (largest_area last n) (limit_at n)

-- where the formula of six tenths ends
abbrev six_tenths_to : ℕ
six_tenths_to = whole_from - 1

six_tenths_fit : (n : ℕ) → n < column_count → fits six_tenths_from six_tenths_to n ≡ true
unfolding lines_with_size_column with_lines area_of formula_of total_of saving_of run_of div_up
six_tenths_fit = all_below_lem (fits six_tenths_from six_tenths_to) 5 refl

whole_fit : (n : ℕ) → n < column_count → fits whole_from dimension_max n ≡ true
unfolding lines_with_size_column with_lines area_of formula_of total_of saving_of run_of div_up
whole_fit = all_below_lem (fits whole_from dimension_max) 5 refl

module _ (w m v n : ℕ) (r : InRange w m v) (l : n < column_count) (hw : w ≤ (size_pair_at n).dimension) (hv : v ≤ (size_pair_at n).speed) where
  -- of one formula
  within_by : (first last : ℕ) → fits first last n ≡ true → first < (size_pair_at n).dimension → w ≤ last →
      formula_of w ≡ formula_of (largest last n) → (lines_of w m v).area.high ≤ limit_at n
  within_by first last t h k e =
      le_trans (area_grows_in_one_formula w (largest last n) m mass_max v (size_pair_at n).speed e (omega arith) r.mass_least r.mass_most hv).high
      (leb-true _ _ (rw (lt-leb (size_pair_at n).dimension first h) at t))

  pub area_within : (six_tenths_from ≤ w → six_tenths_from < (size_pair_at n).dimension) → (whole_from ≤ w → whole_from < (size_pair_at n).dimension) →
      (lines_of w m v).area.high ≤ limit_at n
  area_within beyond_1 beyond_8 =
      ⊎_elim (λ (h : w < whole_from). ⊎_elim (without_slide h) (six_tenths h) (lt_or_le w six_tenths_from)) whole (lt_or_le w whole_from)
    where
      without_slide : w < whole_from → w < six_tenths_from → (lines_of w m v).area.high ≤ limit_at n
      without_slide h k = le_trans (glide_only_area w m v (takes_glide_only w h k)) (limit_mono 0 n (omega arith) l)

      six_tenths : w < whole_from → six_tenths_from ≤ w → (lines_of w m v).area.high ≤ limit_at n
      six_tenths h k =
          within_by six_tenths_from six_tenths_to (six_tenths_fit n l) (beyond_1 k) (omega arith)
          (takes_six_tenths w h k ∙ sym (takes_six_tenths (largest six_tenths_to n) (omega arith) (omega arith)))

      whole : whole_from ≤ w → (lines_of w m v).area.high ≤ limit_at n
      whole k =
          within_by whole_from dimension_max (whole_fit n l) (beyond_8 k) r.dimension_most
          (takes_whole w k ∙ sym (takes_whole (largest dimension_max n) (omega arith)))
