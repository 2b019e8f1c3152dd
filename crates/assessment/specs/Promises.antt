-- What is promised of every assessment, beyond its definition. The proofs are in proofs/PromisesHold.antt.
use Rattle.std.specs.Prelude.{◌≡◌, List, ◌∷◌, ◌++◌, ℕ}
use Rattle.refusal.specs.Refusals.{numbers, OneOf}
use Rattle.sheet.specs.Sheet.{sheet_tests}
use Rattle.map.specs.Refusals.{map_tests}
use Rattle.risk_class.specs.declared.class_table.IntrinsicClass.{IntrinsicClass}
use Rattle.risk_class.specs.declared.mitigation.FinalClass.{FinalClass}
use Rattle.risk_class.specs.ClassTable.{used_row, class_tests, intrinsic_class_of}
use Rattle.risk_class.specs.Mitigation.{mitigation_tests, final_class_of}
use Rattle.assessment.specs.Question.{Question, sheet_asked, footprint_asked}
use Rattle.assessment.specs.Working.{whole_working, working_at}
use Rattle.assessment.specs.Assessment.{refused_assessment, assessment_of}

-- both classes at the sheet's column
abbrev pub intrinsic_asked : Question → IntrinsicClass
intrinsic_asked q = intrinsic_class_of (sheet_asked q).sheet.column (footprint_asked q).row q.controlled

abbrev pub final_asked : Question → FinalClass
final_asked q = final_class_of (sheet_asked q).sheet.column (intrinsic_asked q).class q.word

-- the numbers of the refusals of sheet, footprint, class and mitigation: 1 to 12
abbrev pub assessment_refusals : Question → List ℕ
assessment_refusals q =
    numbers (sheet_tests q.dimension q.mass q.speed)
    ++ numbers (map_tests q.map q.marks)
    ++ numbers (class_tests (sheet_asked q).sheet.column (footprint_asked q).row q.controlled)
    ++ numbers (mitigation_tests (sheet_asked q).sheet.column (intrinsic_asked q).class q.word)

-- demand 1: nothing "but a sheet or one of the numbered refusals of document 01. After a refusal every number is zero"
pub record AssessmentPromise (q : Question) : Type 0 where
  pub listed : OneOf (assessment_of q).refusal (0 ∷ assessment_refusals q)
  pub if_refused : ((assessment_of q).refusal ≡ 0 → ⊥) → assessment_of q ≡ refused_assessment (assessment_of q).refusal

-- an assessment that isn't refused has every part given, and shows them
pub record AssessmentParts (q : Question) : Type 0 where
  pub sheet_accepted : (sheet_asked q).refusal ≡ 0
  pub footprint_accepted : (footprint_asked q).refusal ≡ 0
  pub intrinsic_given : (intrinsic_asked q).refusal ≡ 0
  pub final_given : (final_asked q).refusal ≡ 0
  pub sheet : (assessment_of q).sheet ≡ (sheet_asked q).sheet
  pub footprint : (assessment_of q).footprint ≡ footprint_asked q
  pub row_used : (assessment_of q).row_used ≡ used_row (footprint_asked q).row q.controlled
  pub intrinsic : (assessment_of q).intrinsic ≡ (intrinsic_asked q).class
  pub final_class : (assessment_of q).final_class ≡ (final_asked q).class
  pub working : working_at (sheet_asked q).sheet.column q ≡ whole_working (assessment_of q).intrinsic (assessment_of q).final_class
