-- Demand 3 on areas and columns: what holds of every accepted aircraft.
use Rattle.std.specs.Prelude.{◌≡◌, ℕ, ◌+◌, ◌-◌, ◌*◌, ◌≤◌, ◌<◌}
use Rattle.arithmetic.specs.Fraction.{◌over◌, ◌⊑◌}
use Rattle.columns.specs.Column.{last_limit}
use Rattle.columns.specs.ExactColumn.{ColumnAgrees}
use Rattle.sheet.specs.declared.Sheet.{Sheet}
use Rattle.sheet.specs.Sheet.{sheet_of}
use Rattle.exact_area.specs.ExactArea.{exact_area, exact_column}

-- "The exact fraction lies from the low area to the high area, which differ by at most 7 square centimetres, and by at most 2 where the aircraft's
-- dimension is 8 metres or less."
pub record AreaIsAccurate (w m v : ℕ) (s : Sheet) : Type 0 where
  pub denominator_above_zero : 0 < (exact_area w m v).den
  pub low_at_most : s.area.low over 1 ⊑ exact_area w m v
  pub high_at_least : exact_area w m v ⊑ s.area.high over 1
  pub width : s.area.high ≤ s.area.low + 7
  pub width_to_8_metres : w ≤ 8000 → s.area.high ≤ s.area.low + 2

-- "every accepted sheet has one"; "When the sheet is unflagged, the two columns are equal", "When it is flagged, the sheet's column is the exact one or the
-- next higher"
abbrev pub ColumnIsAccurate : ℕ → ℕ → ℕ → Sheet → Type 0
ColumnIsAccurate w m v s = ColumnAgrees (exact_column w m v) s.column s.flag

-- "When 4 is given, the exact area is more than the last limit less 7 square centimetres."
abbrev pub AboveLastLimitLess7 : ℕ → ℕ → ℕ → Type 0
AboveLastLimitLess7 w m v = (last_limit - 7) * (exact_area w m v).den < (exact_area w m v).num

-- the three together, for whatever three numbers
pub record SheetIsAccurate (w m v : ℕ) : Type 0 where
  pub area : (sheet_of w m v).refusal ≡ 0 → AreaIsAccurate w m v (sheet_of w m v).sheet
  pub column : (sheet_of w m v).refusal ≡ 0 → ColumnIsAccurate w m v (sheet_of w m v).sheet
  pub refusal_4 : (sheet_of w m v).refusal ≡ 4 → AboveLastLimitLess7 w m v
