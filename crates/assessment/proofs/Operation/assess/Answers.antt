use mathlib.Core.Path.{refl, ◌∙◌}
use mir.Syntax.{w8}
use mir.ValLaws.{to_z-of_z}
use Rattle.refusal.proofs.NumberLaws.{number_nonzero, passed_on}
use Rattle.assessment.specs.Question.{asked}
use Rattle.assessment.specs.Assessment.{risk_assessed, refused_assessment}
use Rattle.assessment.proofs.WaysOut.{ended_by_sheet, ended_by_footprint, ended_by_class, ended_by_mitigation, not_refused}
use Rattle.assessment.proofs.Operation.assess.Goals as goal

-- `assess` gives the ground risk, or the first refusal of sheet, footprint, class and mitigation.

pub returns-in_err-sheet : goal.returns-in_err-sheet
returns-in_err-sheet c =
    passed_on risk_assessed refused_assessment _ _ c.from_residual.ensures.1
    ∙ ended_by_sheet (asked c.args.self) c.in_err-sheet.ensures (number_nonzero _)

pub returns-in_err-cells : goal.returns-in_err-cells
returns-in_err-cells c =
    passed_on risk_assessed refused_assessment _ _ c.from_residual-in_err-cells.ensures.1
    ∙ ended_by_footprint (asked c.args.self) c.in_ok-sheet.ensures refl c.in_err-cells.ensures (number_nonzero _)

pub returns-in_err-intrinsic : goal.returns-in_err-intrinsic
returns-in_err-intrinsic c =
    passed_on risk_assessed refused_assessment _ _ c.from_residual-in_err-intrinsic.ensures.1
    ∙ ended_by_class (asked c.args.self) c.in_ok-sheet.ensures refl c.in_ok-cells.ensures refl c.in_err-intrinsic.ensures (number_nonzero _)

pub returns-in_err-final_class : goal.returns-in_err-final_class
returns-in_err-final_class c =
    passed_on risk_assessed refused_assessment _ _ c.from_residual-in_err-final_class.ensures.1
    ∙ ended_by_mitigation (asked c.args.self) c.in_ok-sheet.ensures refl c.in_ok-cells.ensures refl c.in_ok-intrinsic.ensures refl c.in_err-final_class.ensures (number_nonzero _)

pub returns : goal.returns
returns c =
    not_refused (asked c.args.self) c.in_ok-sheet.ensures refl c.in_ok-cells.ensures refl c.in_ok-intrinsic.ensures refl c.in_ok-final_class.ensures c.used_row.ensures (to_z-of_z w8 c.in_ok-final_class.final_class (search)) refl
