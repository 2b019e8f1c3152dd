-- The assessment of what a text asks, or the refusal of its reading. Only a private function is stated by it.
use Rattle.std.specs.Prelude.{List, ℕ}
use Rattle.refusal.specs.Refusals.{answered}
use Rattle.assessment.specs.declared.Assessment.{Assessment}
use Rattle.assessment.specs.Assessment.{refused_assessment, assessment_of}
use Rattle.case_text.specs.Text.{MapBuffers, reading_tests}
use Rattle.ground_risk_case.specs.Case.{question_in}

unfoldable pub assessment_in : List ℕ → MapBuffers → Assessment
assessment_in t lent = answered (reading_tests t lent) (assessment_of (question_in t)) refused_assessment
