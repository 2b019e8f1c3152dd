-- P1 to P16 of document 01 as one table; P2, P5 and P16 as document 02, item 6, has them.
use Rattle.std.specs.Prelude.{◌≡◌, cond, List, [], ◌∷◌, ◌++◌, map, ℕ, ◌^◌, ◌≤◌, eqb, length}
use Rattle.arithmetic.specs.Each.{Each}
use Rattle.arithmetic.specs.Lists.{tabulate, stored}
use Rattle.sheet.specs.Points.{SheetPoint, SheetPointHolds, sheet_points}
use Rattle.map.specs.Points.{RowPoint, RowPointHolds, row_points}
use Rattle.footprint.specs.Points.{P16Map}
use Rattle.risk_class.specs.Points.{FinalPoint, FinalPointHolds, final_points}
use Rattle.assessment.specs.Assessment.{assessment_of}
use Rattle.case_text.specs.declared.CaseHead.{CaseHead}
use Rattle.case_text.specs.Layout.{map_rows, map_cells}
use Rattle.case_text.specs.Text.{MapBuffers, head_of, marks_of, counts_of, reading_refusal}
use Rattle.case_text.specs.TextLaw.{CaseFields, text_of, RightLengths}
use Rattle.frame.specs.Layout.{frame_len}
use Rattle.frame.specs.WorkedLines.{p16_fields, p16_line}
use Rattle.ground_risk_case.specs.Case.{printed_fields, question_in, CaseBuffers, case_answer, buffers_left}

-- P16's first line, `000003e800002710000009c400002710001000`
abbrev pub p16_head : CaseHead
p16_head =
    record { dimension = 0x3e8; mass = 0x2710; speed = 0x9c4; cell_area = 0x2710; controlled = 0x00; word = 0x1000 }

-- a text with that first line, the first footprint line 8000000000000000, the first count 8, "all else zero"
pub record P16Text (t : List ℕ) : Type 0 where
  pub read : (lent : MapBuffers) → RightLengths lent → reading_refusal t lent ≡ 0
  pub head : head_of t ≡ p16_head
  pub map : P16Map (counts_of t) (marks_of t)

-- n numbers, the first x and the others zero
abbrev pub only_first : ℕ → ℕ → List ℕ
only_first x n = tabulate (λ i. cond (eqb i 0) x 0) n

abbrev pub p16_case : CaseFields
p16_case = record { head = p16_head; buffers = record { counts = only_first 8 map_cells; marks = only_first (2 ^ 63) map_rows } }

-- lent buffers as long as they have to be
pub record LongEnough (lent : CaseBuffers) : Type 0 where
  pub map : RightLengths lent.map
  pub frame : frame_len ≤ length lent.frame

-- there is such a text; of each one the printed fields are those of P16's output, the answer is 0, and its line stands in the frame buffer
pub record P16Holds : Type 0 where
  pub text : P16Text (text_of p16_case)
  pub fields : (t : List ℕ) → P16Text t → printed_fields (assessment_of (question_in t)) ≡ p16_fields
  pub answer : (t : List ℕ) → P16Text t → (lent : CaseBuffers) → LongEnough lent → case_answer t lent ≡ 0
  pub bytes : (t : List ℕ) → P16Text t → (lent : CaseBuffers) → LongEnough lent → (buffers_left t lent).frame ≡ stored 0 p16_line lent.frame

pub data WorkedPoint : Type 0 where
  aircraft : SheetPoint → WorkedPoint
  cell : RowPoint → WorkedPoint
  mitigation : FinalPoint → WorkedPoint
  whole_case : WorkedPoint

abbrev pub WorkedPointHolds : WorkedPoint → Type 0
WorkedPointHolds (aircraft p) = SheetPointHolds p
WorkedPointHolds (cell p) = RowPointHolds p
WorkedPointHolds (mitigation p) = FinalPointHolds p
WorkedPointHolds whole_case = P16Holds

-- P1 to P8, P9 to P11 (two cells each), P12 to P15, P16
abbrev pub worked_points : List WorkedPoint
worked_points = map aircraft sheet_points ++ (map cell row_points ++ (map mitigation final_points ++ (whole_case ∷ [])))

abbrev pub WorkedPointsHold : Type 0
WorkedPointsHold = Each WorkedPointHolds worked_points
