-- An aircraft's assessment over a lent map: its sheet, its footprint and both classes, or the first refusal.
use Rattle.std.specs.Prelude.{cond, ℕ, eqb, pos, Result}
use Rattle.refusal.specs.Numbers.{answer_as}
use Rattle.refusal.specs.declared.Refusal.{Refusal}
use Rattle.sheet.specs.declared.Sheet.{Sheet}
use Rattle.sheet.specs.Sheet.{zero_sheet}
use Rattle.footprint.specs.declared.Footprint.{Footprint}
use Rattle.footprint.specs.Footprint.{refused_footprint, accepted_cells}
use Rattle.risk_class.specs.ClassTable.{used_row}
use Rattle.assessment.specs.Question.{Question, sheet_asked, footprint_asked}
use Rattle.assessment.specs.Working.{Given, given, not_given, Working, working_at}
use Rattle.assessment.specs.declared.Assessment.{Assessment}
use Rattle.assessment.specs.declared.GroundRisk.{GroundRisk}

-- "After a refusal every number is zero"
abbrev pub refused_assessment : ℕ → Assessment
refused_assessment n =
    record { refusal = n; sheet = zero_sheet; footprint = refused_footprint 0; row_used = 0; intrinsic = 0; final_class = pos 0 }

-- what an answer of the code stands for: "a definition tells you this paper's number and values for each of its cases"
abbrev pub risk_assessed : GroundRisk → Assessment
risk_assessed r =
    record {
      refusal = 0;
      sheet = r.sheet;
      footprint = accepted_cells r.cells;
      row_used = r.row_used;
      intrinsic = r.intrinsic;
      final_class = r.final_class;
    }

abbrev pub assessment_answer : Result GroundRisk Refusal → Assessment
assessment_answer = answer_as risk_assessed refused_assessment

-- a class that is given, or zero
abbrev pub class_in : {A : Type 0} → A → Given A → A
class_in zero (given class) = class
class_in zero not_given = zero

-- the working at the sheet's column, with the class table's row that was used
unfoldable pub assessed_by : Sheet → Footprint → ℕ → Working → Assessment
assessed_by sheet footprint controlled working =
    cond (eqb working.refusal 0)
    (record {
      refusal = 0;
      sheet = sheet;
      footprint = footprint;
      row_used = used_row footprint.row controlled;
      intrinsic = class_in 0 working.intrinsic;
      final_class = class_in (pos 0) working.final;
    })
    (refused_assessment working.refusal)

-- "tested in the order: .. sheet, footprint, class, mitigation"
unfoldable pub assessment_of : Question → Assessment
assessment_of q =
    let answer = sheet_asked q
    in cond (eqb answer.refusal 0)
    (assessed_by answer.sheet (footprint_asked q) q.controlled (working_at answer.sheet.column q))
    (refused_assessment answer.refusal)
