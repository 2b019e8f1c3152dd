-- P1 to P8.
use mathlib.Core.Path.{refl}
use Rattle.arithmetic.specs.Each.{Each}
use Rattle.arithmetic.specs.Rounding.{div_up}
use Rattle.columns.specs.Column.{column_by, column_of, flag_of}
use Rattle.columns.specs.SizeColumn.{size_column_of}
use Rattle.sheet.specs.Lines.{run_of, saving_of, total_of, formula_of, area_of}
use Rattle.sheet.specs.Sheet.{with_lines, lines_with_size_column, sheet_with_size_column}
use Rattle.sheet.specs.Points.{sheet_figures, SheetPointHolds, sheet_points}

pub sheet_points_hold : Each SheetPointHolds sheet_points
unfolding sheet_figures sheet_with_size_column lines_with_size_column with_lines flag_of column_of column_by size_column_of area_of formula_of total_of saving_of run_of div_up
sheet_points_hold = (refl, (refl, (refl, (refl, (refl, (refl, (refl, (refl, tt))))))))
