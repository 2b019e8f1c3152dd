-- What the whole case answers and leaves, a law for each way out of its tests.
use mathlib.Core.Path.{◌≡◌, refl, sym, ap, ◌∙◌}
use mathlib.Core.List.{List}
use Prim.Native.Nat.{ℕ, ◌≤◌, ◌<◌}
use borrow.Author.Tests.{lt-ltb, le-ltb}
use lib.ListN.{length}
use Rattle.refusal.proofs.RefusalLaws.{use_of, way_out, none_refused, refused_by, accepted_by, answered_under}
use Rattle.assessment.specs.declared.Assessment.{Assessment}
use Rattle.assessment.specs.Assessment.{refused_assessment, assessment_of}
use Rattle.case_text.specs.declared.Reading.{Reading}
use Rattle.case_text.specs.Text.{MapBuffers, reading_tests, reading_refusal, map_buffers_left, ReadingContract}
use Rattle.case_text.specs.Promises.{ReadingPromise}
use Rattle.case_text.proofs.PromisesHold.{refusal_is as reading_number, reading_promise}
use Rattle.frame.specs.declared.FrameFields.{FrameFields}
use Rattle.frame.specs.Layout.{frame_len}
use Rattle.frame.specs.Frame.{refusal_line, with_line, framed, printed as frame_printed, WritingContract}
use Rattle.frame.proofs.WaysOut.{printed_refusal}
use Rattle.ground_risk_case.specs.Case.{printed_fields, question_of, question_in, CaseBuffers, case_refusal, case_answer, buffers_left, CaseContract}
use Rattle.ground_risk_case.specs.PrivateAssessment.{assessment_in}

-- the assessment of a text, from its reading
module _ (text : List ℕ) (lent : MapBuffers) {reading : Reading} {filled : MapBuffers} (read : ReadingContract text lent reading filled) where
  reading_refusal_is : reading.refusal ≡ reading_refusal text lent
  reading_refusal_is = ap (λ (x : Reading). x.refusal) read.answers ∙ reading_number text lent

  pub reading_refused : (reading.refusal ≡ 0 → ⊥) → refused_assessment reading.refusal ≡ assessment_in text lent
  unfolding assessment_in reading_refusal
  reading_refused h =
      refused_by (assessment_of (question_in text)) refused_assessment (reading_tests text lent) refl reading_refusal_is h

  pub reading_accepted : reading.refusal ≡ 0 → assessment_of (question_of reading.head filled) ≡ assessment_in text lent
  unfolding assessment_in reading_refusal question_in
  reading_accepted h = asks ∙ accepted_by (assessment_of (question_in text)) refused_assessment (reading_tests text lent) refl reading_refusal_is h
    where
      promise : ReadingPromise text lent reading filled
      promise = reading_promise text lent read

      asks : assessment_of (question_of reading.head filled) ≡ assessment_of (question_in text)
      asks = simp (promise.answer.if_accepted h, promise.filled h)

module _ (text : List ℕ) (lent : CaseBuffers) where
  pub refused_15 : length lent.frame < frame_len → CaseContract text lent 15 lent
  unfolding case_answer buffers_left
  refused_15 h =
      let short = lt-ltb (length lent.frame) frame_len h in
      record { answers = simp short; left = simp short }

  -- the case's refusal is that of the assessment of the text
  refusal_is : {a : Assessment} → a ≡ assessment_in text lent.map → a.refusal ≡ case_refusal text lent
  unfolding assessment_in case_refusal
  refusal_is e =
      ap (λ (x : Assessment). x.refusal) e ∙ answered_under (λ (x : Assessment). x.refusal) (assessment_of (question_in text)) refused_assessment (reading_tests text lent.map)

  -- with no refusal it is the assessment of what the text asks
  assessed : {a : Assessment} → a ≡ assessment_in text lent.map → 0 ≡ case_refusal text lent → a ≡ assessment_of (question_in text)
  unfolding assessment_in case_refusal
  assessed e none =
      let tests = reading_tests text lent.map in
      let passed = none_refused tests refl (assessment_of (question_in text)).refusal (sym none) in
      e ∙ sym (use_of tests 0 passed.0 (way_out (assessment_of (question_in text)) refused_assessment tests refl 0))

  module _ (long : frame_len ≤ length lent.frame) {filled : MapBuffers} (left : filled ≡ map_buffers_left text lent.map) where
    -- the map buffers are as the reading leaves them, whatever is printed
    printed : {refusal : ℕ} {frame : List ℕ} → refusal ≡ case_refusal text lent
        → frame ≡ framed (case_refusal text lent) (printed_fields (assessment_of (question_in text))) lent.frame
        → CaseContract text lent refusal (record { map = filled; frame = frame })
    unfolding case_answer buffers_left
    printed e g =
        let enough = le-ltb (length lent.frame) frame_len long in
        record { answers = simp enough e; left = simp (enough, ← left, ← g) }

    pub refused : {n : ℕ} {frame : List ℕ} → refused_assessment n ≡ assessment_in text lent.map → (n ≡ 0 → ⊥)
        → frame ≡ with_line (refusal_line n) lent.frame → CaseContract text lent n (record { map = filled; frame = frame })
    refused {n} e h g = printed is (g ∙ rw (← is, printed_refusal _ _ h))
      where
        is : n ≡ case_refusal text lent
        is = refusal_is e

    pub accepted : {a : Assessment} {fields : FrameFields} {answer : ℕ} {frame : List ℕ} → a ≡ assessment_in text lent.map → a.refusal ≡ 0
        → fields ≡ printed_fields a → WritingContract (frame_printed 0 fields) lent.frame answer frame
        → CaseContract text lent answer (record { map = filled; frame = frame })
    accepted {a} {answer = answer} e none f w = printed (fits ∙ is) (w.left ∙ rw (f, ← is, assessed e is))
      where
        is : 0 ≡ case_refusal text lent
        is = sym none ∙ refusal_is e

        fits : answer ≡ 0
        fits = w.answers ∙ simp (le-ltb (length lent.frame) frame_len long)
