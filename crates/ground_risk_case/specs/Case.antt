-- The whole case: "tested in the order: 15, reading, sheet, footprint, class, mitigation; the first refusal from reading on is printed."
use Rattle.std.specs.Prelude.{◌≡◌, List, ℕ}
use Rattle.refusal.specs.Refusals.{answered}
use Rattle.assessment.specs.declared.Assessment.{Assessment}
use Rattle.assessment.specs.Question.{Question}
use Rattle.assessment.specs.Assessment.{assessment_of}
use Rattle.case_text.specs.declared.CaseHead.{CaseHead}
use Rattle.case_text.specs.Text.{MapBuffers, head_of, map_buffers_of, reading_tests, map_buffers_left}
use Rattle.frame.specs.declared.FrameFields.{FrameFields}
use Rattle.frame.specs.Frame.{writing_tests, framed}

-- the printed fields of an assessment
abbrev pub printed_fields : Assessment → FrameFields
printed_fields a =
    record {
      low = a.sheet.area.low;
      high = a.sheet.area.high;
      column = a.sheet.column;
      flag = a.sheet.flag;
      size_column = a.sheet.size_column;
      row_used = a.row_used;
      place = a.footprint.place;
      people = a.footprint.people;
      intrinsic = a.intrinsic;
      final_class = a.final_class;
    }

-- what line 1 and the filled map buffers ask
abbrev pub question_of : CaseHead → MapBuffers → Question
question_of head filled =
    record {
      dimension = head.dimension;
      mass = head.mass;
      speed = head.speed;
      map = record { counts = filled.counts; cell_area = head.cell_area };
      marks = filled.marks;
      controlled = head.controlled;
      word = head.word;
    }

-- what the fields ask that stand in a text
unfoldable pub question_in : List ℕ → Question
question_in t = question_of (head_of t) (map_buffers_of t)

-- the buffers that a case is lent
pub record CaseBuffers : Type 0 where
  pub map : MapBuffers
  pub frame : List ℕ

-- "the first refusal from reading on": the reading's, otherwise that of the assessment of what the text asks; 0 when there is none
unfoldable pub case_refusal : List ℕ → CaseBuffers → ℕ
case_refusal t lent = answered (reading_tests t lent.map) (assessment_of (question_in t)).refusal (λ n. n)

-- "Its answer is the refusal number alone, 0 when there is none."
unfoldable pub case_answer : List ℕ → CaseBuffers → ℕ
case_answer t lent = answered (writing_tests lent.frame) (case_refusal t lent) (λ n. n)

-- "A reading that succeeds fills both buffers, also when a later refusal is printed; under 15 they keep their content."
unfoldable pub buffers_left : List ℕ → CaseBuffers → CaseBuffers
buffers_left t lent =
    answered (writing_tests lent.frame)
    (record {
      map = map_buffers_left t lent.map;
      frame = framed (case_refusal t lent) (printed_fields (assessment_of (question_in t))) lent.frame;
    })
    (λ _. lent)

-- all that the whole case answers and alters
pub record CaseContract (text : List ℕ) (lent : CaseBuffers) (answer : ℕ) (after : CaseBuffers) : Type 0 where
  pub answers : answer ≡ case_answer text lent
  pub left : after ≡ buffers_left text lent
