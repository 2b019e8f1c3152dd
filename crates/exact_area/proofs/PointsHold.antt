-- The worked points, by computation.
use mathlib.Core.Path.{refl}
use Prim.Native.Nat.{◌*◌}
use Rattle.arithmetic.specs.Each.{Each}
use Rattle.arithmetic.specs.Fraction.{plus, minus, times, divided}
use Rattle.arithmetic.specs.Rounding.{div_up}
use Rattle.arithmetic.proofs.EachLaws.{each_equal}
use Rattle.columns.specs.Column.{column_by, column_of, flag_of}
use Rattle.sheet.specs.Lines.{run_of, saving_of, total_of, formula_of, area_of}
use Rattle.sheet.specs.Sheet.{with_lines, lines_with_size_column, sheet_with_size_column}
use Rattle.exact_area.specs.ExactArea.{exact_glide, speed_term, mass_term, friction, exact_slide, half_width, whole_area, exact_by, exact_area, exact_column}
use Rattle.exact_area.specs.Points.{AreaPointHolds, ColumnPointHolds, on_sheet, FlagPointHolds}
use Rattle.exact_area.specs.PointTable.{exact_points}

pub area_points_hold : Each AreaPointHolds exact_points
unfolding exact_area exact_by whole_area half_width exact_slide friction mass_term speed_term exact_glide formula_of plus minus times divided
area_points_hold =
    each_equal (λ p. (exact_area p.w p.m p.v).num * p.area.den)
    (λ p. p.area.num * (exact_area p.w p.m p.v).den) exact_points refl

pub column_points_hold : Each ColumnPointHolds exact_points
unfolding exact_column column_by exact_area exact_by whole_area half_width exact_slide friction mass_term speed_term exact_glide formula_of plus minus times divided
column_points_hold = each_equal (λ p. exact_column p.w p.m p.v) (λ p. p.exact_column) exact_points refl

pub flag_points_hold : Each FlagPointHolds exact_points
unfolding sheet_with_size_column lines_with_size_column with_lines flag_of column_of column_by area_of formula_of total_of saving_of run_of div_up
flag_points_hold = each_equal (λ p. on_sheet p.w p.m p.v) (λ p. p.on_sheet) exact_points refl
