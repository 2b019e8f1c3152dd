-- The sheet and its refusals.
use Rattle.std.specs.Prelude.{Bool, List, [], ◌∷◌, ◌++◌, ℕ, ltb, Result}
use Rattle.arithmetic.specs.Conditions.{outside}
use Rattle.refusal.specs.Numbers.{answer_as}
use Rattle.refusal.specs.Refusals.{Test, ◌when◌, answered}
use Rattle.refusal.specs.declared.Refusal.{Refusal}
use Rattle.columns.specs.Bracket.{bracket}
use Rattle.columns.specs.Column.{last_limit, column_and_flag_of}
use Rattle.columns.specs.SizeColumn.{size_column_of}
use Rattle.columns.specs.declared.Bracket.{Bracket}
use Rattle.sheet.specs.Ranges.{dimension_min, dimension_max, mass_min, mass_max, speed_max}
use Rattle.sheet.specs.Lines.{full_width, glide_of, run_of, saving_of, slide_of, total_of, formula_of, area_of}
use Rattle.sheet.specs.declared.Sheet.{Sheet}
use Rattle.sheet.specs.declared.SheetAnswer.{SheetAnswer}

-- "The sheet holds lines 1 to 6, the column and the flag"; "The sheet's record gains a size column" (document 02, item 1)
unfoldable pub with_lines : Bracket → Bracket → Bracket → Bracket → Bracket → ℕ → Sheet
with_lines run saving slide total area size =
    record {
      glide = glide_of;
      run = run;
      saving = saving;
      slide = slide;
      total = total;
      area = area;
      column = (column_and_flag_of area).column;
      flag = (column_and_flag_of area).flag;
      size_column = size;
    }

-- "all six lines are filled at every dimension"
unfoldable pub lines_with_size_column : ℕ → ℕ → ℕ → ℕ → Sheet
lines_with_size_column w m v size =
    let slide = slide_of (run_of v) (saving_of m)
    in let total = total_of (full_width w) glide_of slide
    in with_lines (run_of v) (saving_of m) slide total (area_of (formula_of w) (full_width w) glide_of total) size

-- the aircraft's own size column; nothing is judged by it: "The class still comes from the area." (document 02, item 1)
abbrev pub lines_of : ℕ → ℕ → ℕ → Sheet
lines_of w m v = lines_with_size_column w m v (size_column_of w v)

-- "a refused sheet is all zeros"
abbrev pub zero_sheet : Sheet
zero_sheet =
    record {
      glide = bracket 0 0;
      run = bracket 0 0;
      saving = bracket 0 0;
      slide = bracket 0 0;
      total = bracket 0 0;
      area = bracket 0 0;
      column = 0;
      flag = 0;
      size_column = 0;
    }

abbrev pub refused_sheet : ℕ → SheetAnswer
refused_sheet n = record { refusal = n; sheet = zero_sheet }

abbrev pub accepted_sheet : Sheet → SheetAnswer
accepted_sheet s = record { refusal = 0; sheet = s }

-- what an answer of the code stands for: "a definition tells you this paper's number and values for each of its cases"
abbrev pub sheet_answer : Result Sheet Refusal → SheetAnswer
sheet_answer = answer_as accepted_sheet refused_sheet

-- "1 dimension outside its range; 2 mass; 3 speed"
abbrev pub wrong_dimension : ℕ → Bool
wrong_dimension w = outside dimension_min dimension_max w

abbrev pub wrong_mass : ℕ → Bool
wrong_mass m = outside mass_min mass_max m

abbrev pub wrong_speed : ℕ → Bool
wrong_speed v = ltb speed_max v

abbrev pub range_tests : ℕ → ℕ → ℕ → List Test
range_tests w m v =
    1 when wrong_dimension w
    ∷ 2 when wrong_mass m
    ∷ 3 when wrong_speed v
    ∷ []

-- "4 high area above 650,000,000"
abbrev pub area_too_large : Sheet → Bool
area_too_large s = ltb last_limit s.area.high

abbrev pub area_tests : Sheet → List Test
area_tests s = 4 when area_too_large s ∷ []

-- "Tested in that order"
abbrev pub sheet_tests : ℕ → ℕ → ℕ → List Test
sheet_tests w m v = range_tests w m v ++ area_tests (lines_of w m v)

-- the sheet of an aircraft with any size column, or its refusal
unfoldable pub sheet_with_size_column : ℕ → ℕ → ℕ → ℕ → SheetAnswer
sheet_with_size_column w m v size = answered (sheet_tests w m v) (accepted_sheet (lines_with_size_column w m v size)) refused_sheet

-- the sheet of an aircraft, with its own size column, or its refusal
abbrev pub sheet_of : ℕ → ℕ → ℕ → SheetAnswer
sheet_of w m v = sheet_with_size_column w m v (size_column_of w v)
