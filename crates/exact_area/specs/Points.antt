-- What a worked point says. No program runs the definition of the exact area: the points of PointTable.antt, which the checker works out, do.
use Rattle.std.specs.Prelude.{◌≡◌, ℕ, ◌*◌}
use Rattle.columns.specs.Column.{column_and_flag}
use Rattle.columns.specs.declared.ColumnAndFlag.{ColumnAndFlag}
use Rattle.sheet.specs.Sheet.{sheet_of}
use Rattle.exact_area.specs.ExactArea.{exact_area, exact_column}
use Rattle.exact_area.specs.ExactPoint.{ExactPoint}

-- the two fractions are equal, "compared by cross products"; the definition's denominator is above zero (Accuracy)
abbrev pub AreaPointHolds : ExactPoint → Type 0
AreaPointHolds p =
    (exact_area p.w p.m p.v).num * p.area.den ≡ p.area.num * (exact_area p.w p.m p.v).den

abbrev pub ColumnPointHolds : ExactPoint → Type 0
ColumnPointHolds p = exact_column p.w p.m p.v ≡ p.exact_column

-- the column and the flag of an aircraft's sheet
abbrev pub on_sheet : ℕ → ℕ → ℕ → ColumnAndFlag
on_sheet w m v = column_and_flag (sheet_of w m v).sheet.column (sheet_of w m v).sheet.flag

abbrev pub FlagPointHolds : ExactPoint → Type 0
FlagPointHolds p = on_sheet p.w p.m p.v ≡ p.on_sheet
