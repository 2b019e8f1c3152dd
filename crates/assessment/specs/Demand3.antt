-- Demand 3: "For every aircraft that the sheet accepts, whatever the map, footprint, controlled mark and mitigation word, all of this holds
-- together, each figure, row, class and refusal being the one that document 01 defines."
use Rattle.std.specs.Prelude.{◌≡◌, ℕ, ◌≤◌, ℤ, ◌≤ℤ◌}
use Rattle.exact_area.specs.Accuracy.{AreaIsAccurate, ColumnIsAccurate}
use Rattle.assessment.specs.Question.{Question, sheet_asked, exact_column_asked}
use Rattle.assessment.specs.Working.{given, Working, working_at}

-- "the two columns are equal, and so are the intrinsic class, the final class and the refusal, if any"
pub record SameWorking (sheet exact : Working) : Type 0 where
  pub intrinsic : exact.intrinsic ≡ sheet.intrinsic
  pub final : exact.final ≡ sheet.final
  pub refusal : exact.refusal ≡ sheet.refusal

-- "where the sheet's column gives an intrinsic class, the exact column gives an intrinsic class too, the same or a lower one, and likewise
-- for the final class"
pub record SameOrLower (sheet exact : Working) : Type 0 where
  pub intrinsic : (class : ℕ) → sheet.intrinsic ≡ given class → (lower : ℕ) × (exact.intrinsic ≡ given lower) × (lower ≤ class)
  pub final : (class : ℤ) → sheet.final ≡ given class → (lower : ℤ) × (exact.final ≡ given lower) × (lower ≤ℤ class)

-- "The case is worked with the sheet's column and with the exact one, over that same map, footprint, mark and word."
abbrev pub sheet_working : Question → Working
sheet_working q = working_at (sheet_asked q).sheet.column q

abbrev pub exact_working : Question → Working
exact_working q = working_at (exact_column_asked q) q

pub record Demand3 (q : Question) : Type 0 where
  -- "The exact fraction lies from the low area to the high area, which differ by at most 7 square centimetres, and by at most 2 where the
  -- aircraft's dimension is 8 metres or less."
  pub accuracy : AreaIsAccurate q.dimension q.mass q.speed (sheet_asked q).sheet
  -- "When the sheet is unflagged, the two columns are equal"; "When it is flagged, the sheet's column is the exact one or the next higher"
  pub columns : ColumnIsAccurate q.dimension q.mass q.speed (sheet_asked q).sheet
  -- "When the sheet is unflagged, the two columns are equal, and so are the intrinsic class, the final class and the refusal, if any."
  pub unflagged_working : (sheet_asked q).sheet.flag ≡ 0 → SameWorking (sheet_working q) (exact_working q)
  -- "When it is flagged, .. where the sheet's column gives an intrinsic class, the exact column gives an intrinsic class too, the same or a
  -- lower one, and likewise for the final class."
  pub flagged_working : (sheet_asked q).sheet.flag ≡ 1 → SameOrLower (sheet_working q) (exact_working q)

-- no hypothesis beyond acceptance: lists of any numbers and lengths, any three numbers beside them
abbrev pub Demand3OfAll : Type 0
Demand3OfAll = (q : Question) → (sheet_asked q).refusal ≡ 0 → Demand3 q
