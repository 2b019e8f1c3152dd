-- P1 to P16.
use mathlib.Core.Path.{◌≡◌, refl, sym, ap, ◌∙◌, subst}
use mathlib.Core.Bool.{Bool, cond}
use mathlib.Core.Logic.{⊎_elim}
use mathlib.Core.List.{List, [], ◌∷◌, ◌++◌, map}
use Prim.Native.Nat.{ℕ, suc, ◌^◌, ◌≤◌, ◌<◌}
use native.Mathlib.Omega.{arith}
use borrow.Author.Tests.{ne_eqb, le-ltb}
use lib.Dec.{eqb, lit≤}
use lib.ListN.{length, get_or, get_or-eq_default}
use Rattle.arithmetic.specs.Each.{Each}
use Rattle.arithmetic.specs.Rounding.{div_up}
use Rattle.arithmetic.specs.Conditions.{any_below}
use Rattle.arithmetic.specs.Lists.{stored}
use Rattle.arithmetic.proofs.EachLaws.{each_append, each_map}
use Rattle.arithmetic.proofs.ListLaws.{length_tabulate, tabulate_at}
use Rattle.refusal.proofs.RefusalLaws.{accepted_by}
use Rattle.arithmetic.proofs.TestLaws.{lt_or_le, cond_le}
use Rattle.columns.specs.Column.{column_by, column_of, flag_of}
use Rattle.columns.specs.SizeColumn.{size_column_of}
use Rattle.sheet.specs.Lines.{run_of, saving_of, total_of, formula_of, area_of}
use Rattle.sheet.specs.Sheet.{with_lines, lines_with_size_column, sheet_with_size_column}
use Rattle.sheet.specs.Points.{sheet_points}
use Rattle.sheet.proofs.PointsHold.{sheet_points_hold}
use Rattle.map.specs.Points.{row_points}
use Rattle.map.proofs.PointsHold.{row_points_hold}
use Rattle.footprint.specs.Points.{P16Map}
use Rattle.footprint.proofs.PointsHold.{p16_footprint}
use Rattle.risk_class.specs.ClassTable.{class_at, intrinsic_class_of}
use Rattle.risk_class.specs.Mitigation.{credit_at, final_class_of}
use Rattle.risk_class.specs.Points.{final_points}
use Rattle.risk_class.proofs.PointsHold.{final_points_hold}
use Rattle.assessment.specs.declared.Assessment.{Assessment}
use Rattle.assessment.specs.Working.{after_class, after_footprint, working_on}
use Rattle.assessment.specs.Assessment.{assessed_by, assessment_of}
use Rattle.case_text.specs.declared.CaseHead.{CaseHead}
use Rattle.case_text.specs.Layout.{map_rows, map_cells}
use Rattle.case_text.specs.Text.{MapBuffers, map_buffers_of, reading_tests, reading_refusal}
use Rattle.case_text.specs.TextLaw.{CaseFields, text_of, fields_of as fields_in, Fits, RightLengths}
use Rattle.case_text.proofs.ReadingLaws.{accepted_none}
use Rattle.case_text.proofs.TextLawHolds.{text_law}
use Rattle.frame.specs.declared.FrameFields.{FrameFields}
use Rattle.frame.specs.Layout.{frame_len}
use Rattle.frame.specs.Frame.{printed, with_line}
use Rattle.frame.specs.WorkedLines.{p16_fields, p16_line}
use Rattle.frame.proofs.WorkedLinesHold.{worked_lines}
use Rattle.ground_risk_case.specs.Case.{printed_fields, question_of, question_in, CaseBuffers, case_refusal, case_answer, buffers_left}
use Rattle.ground_risk_case.specs.Points.{p16_head, P16Text, only_first, p16_case, LongEnough, P16Holds, aircraft, cell, mitigation, whole_case, WorkedPointHolds, WorkedPointsHold}

-- what is shown of an assessment: the refusal, and the printed fields
record Told : Type 0 where
  refusal : ℕ
  fields : FrameFields

abbrev told : Assessment → Told
told a = record { refusal = a.refusal; fields = printed_fields a }

p16_assessment : (filled : MapBuffers) → P16Map filled.counts filled.marks
    → told (assessment_of (question_of p16_head filled)) ≡ record { refusal = 0; fields = p16_fields }
unfolding assessment_of assessed_by working_on after_footprint after_class sheet_with_size_column lines_with_size_column with_lines flag_of column_of column_by size_column_of area_of formula_of total_of saving_of run_of div_up intrinsic_class_of class_at final_class_of credit_at any_below
p16_assessment filled h = rw (p16_footprint filled.counts filled.marks h)

p16_line_lem : printed 0 p16_fields ≡ p16_line
unfolding printed
p16_line_lem = worked_lines.p16

p16_told : (t : List ℕ) → P16Text t → told (assessment_of (question_in t)) ≡ record { refusal = 0; fields = p16_fields }
unfolding question_in
p16_told t h = ap (λ (x : CaseHead). told (assessment_of (question_of x (map_buffers_of t)))) h.head ∙ p16_assessment (map_buffers_of t) h.map

module _ (t : List ℕ) (h : P16Text t) (lent : CaseBuffers) (enough : LongEnough lent) where
  p16_refusal : case_refusal t lent ≡ 0
  unfolding case_refusal reading_refusal
  p16_refusal =
      sym (accepted_by (assessment_of (question_in t)).refusal (λ n. n) (reading_tests t lent.map) refl refl (h.read lent.map enough.map))
      ∙ ap (λ (x : Told). x.refusal) (p16_told t h)

  p16_answer : case_answer t lent ≡ 0
  unfolding case_answer
  p16_answer = simp (le-ltb (length lent.frame) frame_len enough.frame) p16_refusal

  p16_bytes : (buffers_left t lent).frame ≡ stored 0 p16_line lent.frame
  unfolding buffers_left with_line
  p16_bytes =
      simp (le-ltb (length lent.frame) frame_len enough.frame, p16_refusal)
      (ap (λ (x : Told). stored 0 (printed 0 x.fields) lent.frame) (p16_told t h) ∙ ap (λ (l : List ℕ). stored 0 l lent.frame) p16_line_lem)

-- ---- the text of P16's fields

module _ (x n : ℕ) where
  only_le : (i : ℕ) → i < n → get_or (only_first x n) i 0 ≤ x
  only_le i l = rw (tabulate_at (λ k. cond (eqb k 0) x 0) n i l) (cond_le (eqb i 0) {a = x} {b = 0} {k = x} (omega arith) (omega arith))

  only_first_lem : 0 < n → get_or (only_first x n) 0 0 ≡ x
  only_first_lem l = tabulate_at (λ k. cond (eqb k 0) x 0) n 0 l

  only_others : (i : ℕ) → get_or (only_first x n) (suc i) 0 ≡ 0
  only_others i =
      ⊎_elim (λ (l : suc i < n). tabulate_at (λ k. cond (eqb k 0) x 0) n (suc i) l ∙ ap (λ (b : Bool). cond b x 0) (ne_eqb (suc i) 0 (λ e. omega arith)))
      (λ (l : n ≤ suc i). get_or-eq_default (only_first x n) 0 (omega (arith, length_tabulate (λ k. cond (eqb k 0) x 0) n))) (lt_or_le (suc i) n)

p16_fits : Fits p16_case
p16_fits =
    record {
      dimension = lit≤ tt;
      mass = lit≤ tt;
      speed = lit≤ tt;
      cell_area = lit≤ tt;
      controlled = lit≤ tt;
      word = lit≤ tt;
      marks_length = length_tabulate _ map_rows;
      mark = λ k l. omega (arith, only_le (2 ^ 63) map_rows k l);
      counts_length = length_tabulate _ map_cells;
      count = λ k l. omega (arith, only_le 8 map_cells k l);
    }

p16_map : P16Map (only_first 8 map_cells) (only_first (2 ^ 63) map_rows)
p16_map =
    record {
      counts_length = length_tabulate _ map_cells;
      marks_length = length_tabulate _ map_rows;
      first_count = only_first_lem 8 map_cells (lit≤ tt);
      other_counts = only_others 8 map_cells;
      first_marks = only_first_lem (2 ^ 63) map_rows (lit≤ tt);
      other_marks = only_others (2 ^ 63) map_rows;
    }

p16_read : (lent : MapBuffers) → RightLengths lent → reading_refusal (text_of p16_case) lent ≡ 0
p16_read lent right =
    accepted_none (text_of p16_case) lent (record { text_long = text_law.text_long p16_case; buffers = right; text = text_law.text_accepted p16_case })

p16_text : P16Text (text_of p16_case)
p16_text =
    let is : fields_in (text_of p16_case) ≡ p16_case = text_law.fields_read p16_case p16_fits
    in record {
      read = p16_read;
      head = ap (λ (f : CaseFields). f.head) is;
      map = subst (λ (f : CaseFields). P16Map f.buffers.counts f.buffers.marks) (sym is) p16_map;
    }

p16_holds : P16Holds
p16_holds =
    record {
      text = p16_text;
      fields = λ t h. ap (λ (x : Told). x.fields) (p16_told t h);
      answer = p16_answer;
      bytes = p16_bytes;
    }

words_and_case : Each WorkedPointHolds (map mitigation final_points ++ (whole_case ∷ []))
words_and_case =
    each_append WorkedPointHolds (map mitigation final_points) (whole_case ∷ [])
    (each_map WorkedPointHolds mitigation final_points final_points_hold) (p16_holds, tt)

cells_and_on : Each WorkedPointHolds (map cell row_points ++ (map mitigation final_points ++ (whole_case ∷ [])))
cells_and_on =
    each_append WorkedPointHolds (map cell row_points) (map mitigation final_points ++ (whole_case ∷ []))
    (each_map WorkedPointHolds cell row_points row_points_hold) words_and_case

pub worked_points_hold : WorkedPointsHold
worked_points_hold =
    each_append WorkedPointHolds (map aircraft sheet_points) (map cell row_points ++ (map mitigation final_points ++ (whole_case ∷ [])))
    (each_map WorkedPointHolds aircraft sheet_points sheet_points_hold) cells_and_on
