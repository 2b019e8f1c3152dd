-- The demands at the bytes: what a frame tells that was printed with no refusal, and what every case answers.
use Rattle.std.specs.Prelude.{◌≡◌, List, ◌∷◌, ◌++◌, ℕ, ◌≤◌, length}
use Rattle.refusal.specs.Refusals.{numbers, OneOf}
use Rattle.assessment.specs.Question.{Question}
use Rattle.assessment.specs.Assessment.{assessment_of}
use Rattle.assessment.specs.Promises.{assessment_refusals, AssessmentParts}
use Rattle.assessment.specs.Demand3.{Demand3}
use Rattle.case_text.specs.Text.{reading_tests}
use Rattle.frame.specs.Layout.{frame_len}
use Rattle.frame.specs.Frame.{writing_tests}
use Rattle.frame.specs.FrameLaw.{refusal_in, Shows}
use Rattle.ground_risk_case.specs.Case.{printed_fields, question_in, CaseBuffers, case_answer, buffers_left}

-- the bytes of a frame show the printed fields of the assessment (demand 2: "Every figure equals what document 01 lays down"), every part of the
-- assessment is given, and demand 3 holds: "For every aircraft that the sheet accepts, whatever the map, footprint, controlled mark and mitigation
-- word, all of this holds together"
pub record FrameTells (q : Question) (frame : List ℕ) : Type 0 where
  pub shows : Shows frame (printed_fields (assessment_of q))
  pub parts : AssessmentParts q
  pub demand_3 : Demand3 q

-- for every text and all lent buffers: where the case answers 0, the frame buffer's bytes tell what the text asks
abbrev pub EndToEnd : Type 0
EndToEnd = (t : List ℕ) (lent : CaseBuffers) → case_answer t lent ≡ 0 → FrameTells (question_in t) (buffers_left t lent).frame

-- the numbers of the refusals of a case, in the order tested: 15, those of the reading, those of the assessment
abbrev pub case_refusals : List ℕ → CaseBuffers → List ℕ
case_refusals t lent = numbers (writing_tests lent.frame) ++ numbers (reading_tests t lent.map) ++ assessment_refusals (question_in t)

-- whatever it answers is 0 or "one of the numbered refusals of document 01", and the first two digits of a frame buffer that is long enough show it
pub record AnswerShown (t : List ℕ) (lent : CaseBuffers) : Type 0 where
  pub listed : OneOf (case_answer t lent) (0 ∷ case_refusals t lent)
  pub shown : frame_len ≤ length lent.frame → refusal_in (buffers_left t lent).frame ≡ case_answer t lent
