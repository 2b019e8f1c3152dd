-- The shape of a worked point.
use Rattle.std.specs.Prelude.{ℕ}
use Rattle.arithmetic.specs.Fraction.{Fraction}
use Rattle.columns.specs.Column.{column_and_flag}
use Rattle.columns.specs.declared.ColumnAndFlag.{ColumnAndFlag}

-- an aircraft, its exact area and exact column, and the column and flag of its sheet
pub record ExactPoint : Type 0 where
  pub w : ℕ
  pub m : ℕ
  pub v : ℕ
  pub area : Fraction
  pub exact_column : ℕ
  pub on_sheet : ColumnAndFlag

abbrev pub point : ℕ → ℕ → ℕ → Fraction → ℕ → ℕ → ℕ → ExactPoint
point w m v area exact column flag =
    record { w = w; m = m; v = v; area = area; exact_column = exact; on_sheet = column_and_flag column flag }
