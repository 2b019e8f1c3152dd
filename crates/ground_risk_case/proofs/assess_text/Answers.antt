use mathlib.Core.Path.{refl, ◌∙◌}
use Rattle.refusal.proofs.NumberLaws.{number_nonzero, passed_on}
use Rattle.assessment.specs.Assessment.{risk_assessed, refused_assessment}
use Rattle.ground_risk_case.proofs.WaysOut.{reading_refused, reading_accepted}
use Rattle.ground_risk_case.proofs.assess_text.Goals as goal

-- `assess_text` gives the assessment of what the text asks, or the refusal of its reading.

pub returns-in_err-head-clause-answer : goal.returns-in_err-head-clause-answer
returns-in_err-head-clause-answer c =
    passed_on risk_assessed refused_assessment _ _ c.from_residual.ensures.1 ∙ reading_refused _ _ c.in_err-head.ensures (number_nonzero _)

pub returns-clause-answer : goal.returns-clause-answer
returns-clause-answer c = c.assess.ensures ∙ reading_accepted _ _ c.in_ok-head.ensures refl
