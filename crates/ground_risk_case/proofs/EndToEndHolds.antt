-- What a frame tells that was printed with no refusal, and that every answer is listed and shown.
use mathlib.Core.Path.{◌≡◌, refl, sym, ap, ◌∙◌, subst}
use mathlib.Core.Bool.{Bool, true, false}
use mathlib.Core.List.{List, ◌∷◌}
use Prim.Native.Nat.{ℕ, ◌≤◌}
use native.Mathlib.Omega.{arith}
use borrow.Author.Tests.{le-ltb, eqb-true, eqb-false, ltb-false}
use lib.Dec.{ltb, eqb, leb→le}
use lib.IntN.{ℤ, pos, negsuc}
use lib.ListN.{length}
use lib.Signed.{◌≤ℤ◌}
use Rattle.arithmetic.specs.Fraction.{◌over◌, ◌⊑◌}
use Rattle.refusal.specs.Refusals.{FirstToHold, OneOf}
use Rattle.arithmetic.proofs.FractionLaws.{trans_le}
use Rattle.refusal.proofs.RefusalLaws.{one_of_le, one_of_more, answered_one_of, none_refused}
use Rattle.arithmetic.proofs.TestLaws.{cond_le}
use Rattle.columns.specs.Column.{last_limit}
use Rattle.columns.proofs.ColumnLaws.{column_max}
use Rattle.columns.proofs.SizeColumnPromiseHolds.{size_column_promise}
use Rattle.sheet.specs.Sheet.{lines_of, sheet_of}
use Rattle.sheet.specs.declared.SheetAnswer.{SheetAnswer}
use Rattle.sheet.proofs.LineLaws.{lines_column, lines_size_column}
use Rattle.sheet.proofs.AcceptanceHolds.{refused_exactly_when, sheet_promise}
use Rattle.exact_area.specs.ExactArea.{exact_area}
use Rattle.exact_area.specs.Accuracy.{AreaIsAccurate}
use Rattle.footprint.specs.Promises.{FootprintRanges}
use Rattle.footprint.proofs.PromisesHold.{footprint_promise}
use Rattle.risk_class.proofs.PromisesHold.{intrinsic_promise, final_promise}
use Rattle.assessment.specs.Question.{Question, sheet_asked, footprint_asked}
use Rattle.assessment.specs.Assessment.{assessment_of}
use Rattle.assessment.specs.Promises.{assessment_refusals, intrinsic_asked, AssessmentParts}
use Rattle.assessment.specs.Demand3.{Demand3}
use Rattle.assessment.proofs.PromisesHold.{assessment_promise, assessment_parts}
use Rattle.assessment.proofs.Demand3Holds.{demand_3}
use Rattle.case_text.specs.Text.{reading_tests}
use Rattle.frame.specs.Layout.{frame_len}
use Rattle.frame.specs.Frame.{writing_tests, framed}
use Rattle.frame.specs.FrameLaw.{refusal_in, ClassFits, FrameFits}
use Rattle.frame.proofs.FrameLawHolds.{frame_law}
use Rattle.ground_risk_case.specs.Case.{printed_fields, question_in, CaseBuffers, case_refusal, case_answer, buffers_left}
use Rattle.ground_risk_case.specs.EndToEnd.{FrameTells, EndToEnd, case_refusals, AnswerShown}

-- a final class is told by its byte
class_fits : (z : ℤ) → negsuc 0 ≤ℤ z → z ≤ℤ pos 7 → ClassFits z
class_fits (pos n) h k = omega (arith, leb→le n 7 k.le)
class_fits (negsuc n) h k = omega (arith, leb→le n 0 h.le)

-- an accepted sheet's numbers are no longer than their fields
sheet_fits : (w m v : ℕ) → (sheet_of w m v).refusal ≡ 0 → AreaIsAccurate w m v (sheet_of w m v).sheet →
    ((sheet_of w m v).sheet.area.low ≤ last_limit) × ((sheet_of w m v).sheet.area.high ≤ last_limit) × ((sheet_of w m v).sheet.column ≤ 5)
    × ((sheet_of w m v).sheet.size_column ≤ 5)
sheet_fits w m v e a =
    let is : (sheet_of w m v).sheet ≡ lines_of w m v = ap (λ (x : SheetAnswer). x.sheet) ((sheet_promise w m v).if_accepted e)
    in let high : (sheet_of w m v).sheet.area.high ≤ last_limit = rw is ((refused_exactly_when w m v).none.0 e).1
    in let low : (sheet_of w m v).sheet.area.low over 1 ⊑ (sheet_of w m v).sheet.area.high over 1 =
    trans_le _ (exact_area w m v) _ a.denominator_above_zero a.low_at_most a.high_at_least
    in (omega arith, high, rw (is, lines_column w m v) (column_max _), rw (is, lines_size_column w m v) (size_column_promise.in_table w v))

module _ (q : Question) (none : (assessment_of q).refusal ≡ 0) where
  parts : AssessmentParts q
  parts = assessment_parts q none

  demand : Demand3 q
  demand = demand_3 q parts.sheet_accepted

  ranges : FootprintRanges q.map q.marks
  ranges = (footprint_promise q.map q.marks).ranges parts.footprint_accepted

  fits : FrameFits (printed_fields (assessment_of q))
  fits =
      let s = sheet_fits q.dimension q.mass q.speed parts.sheet_accepted demand.accuracy
      in let column = (sheet_asked q).sheet.column
      in let last = final_promise column (intrinsic_asked q).class q.word
      in record {
        low = rw parts.sheet (omega arith);
        high = rw parts.sheet (omega arith);
        column = rw parts.sheet (omega arith);
        flag = rw parts.sheet (omega (arith, demand.columns.flag_zero_or_one));
        size_column = rw parts.sheet (omega arith);
        row_used = rw parts.row_used (omega (arith, cond_le (eqb q.controlled 1) {a = 1} {b = (footprint_asked q).row} {k = 7} (omega arith) ranges.row_le));
        place = rw parts.footprint (omega (arith, ranges.place_lt));
        people = rw parts.footprint (omega (arith, ranges.people_le));
        intrinsic = rw parts.intrinsic (omega (arith, (intrinsic_promise column (footprint_asked q).row q.controlled).class_le parts.intrinsic_given));
        final_class = rw parts.final_class (class_fits _ (last.class_ge parts.final_given) (last.class_le parts.final_given));
      }

  tells : (frame : List ℕ) → frame_len ≤ length frame → FrameTells q (framed 0 (printed_fields (assessment_of q)) frame)
  tells frame long = record { shows = frame_law.fields_shown (printed_fields (assessment_of q)) frame long fits; parts = parts; demand_3 = demand }

module _ (t : List ℕ) (lent : CaseBuffers) where
  left_is : ltb (length lent.frame) frame_len ≡ false → {n : ℕ} → case_refusal t lent ≡ n
      → (buffers_left t lent).frame ≡ framed n (printed_fields (assessment_of (question_in t))) lent.frame
  left_is long e = unfold buffers_left in simp (long, e)

  pub tells_what_is_asked : case_answer t lent ≡ 0 → FrameTells (question_in t) (buffers_left t lent).frame
  tells_what_is_asked h =
      subst (λ (frame : List ℕ). FrameTells (question_in t) frame) (sym (left_is written.0.0 written.1))
      (tells (question_in t) read.1 lent.frame (ltb-false _ _ written.0.0))
    where
      written : FirstToHold (writing_tests lent.frame) 0 × (case_refusal t lent ≡ 0)
      written = unfold case_answer in none_refused (writing_tests lent.frame) refl (case_refusal t lent) h

      read : FirstToHold (reading_tests t lent.map) 0 × ((assessment_of (question_in t)).refusal ≡ 0)
      read = unfold case_refusal in none_refused (reading_tests t lent.map) refl (assessment_of (question_in t)).refusal written.1

  -- ---- every answer

  case_listed : OneOf (case_refusal t lent) (0 ∷ case_refusals t lent)
  unfolding case_refusal
  case_listed =
      answered_one_of (reading_tests t lent.map) _ (0 ∷ case_refusals t lent) refl
      (one_of_more _ (0 ∷ assessment_refusals (question_in t)) (0 ∷ case_refusals t lent) refl (assessment_promise (question_in t)).listed)

  pub answer_shown : AnswerShown t lent
  answer_shown =
      record {
        listed = unfold case_answer in answered_one_of (writing_tests lent.frame) _ (0 ∷ case_refusals t lent) refl case_listed;
        shown = λ long. by_test long (eqb (case_refusal t lent) 0) refl;
      }
    where
      answer_is : frame_len ≤ length lent.frame → case_answer t lent ≡ case_refusal t lent
      answer_is long = unfold case_answer in simp (le-ltb _ frame_len long)

      by_test : frame_len ≤ length lent.frame → (b : Bool) → eqb (case_refusal t lent) 0 ≡ b → refusal_in (buffers_left t lent).frame ≡ case_answer t lent
      by_test long true e =
          let none : case_answer t lent ≡ 0 = answer_is long ∙ eqb-true _ 0 e in
          (tells_what_is_asked none).shows.accepted ∙ sym none
      by_test long false e =
          ap refusal_in (left_is (le-ltb _ frame_len long) refl)
          ∙ frame_law.refusal_shown (case_refusal t lent) (printed_fields (assessment_of (question_in t))) lent.frame long (eqb-false _ 0 e)
          (omega (arith, one_of_le 255 _ (0 ∷ case_refusals t lent) refl case_listed))
          ∙ sym (answer_is long)

pub end_to_end : EndToEnd
end_to_end = tells_what_is_asked
