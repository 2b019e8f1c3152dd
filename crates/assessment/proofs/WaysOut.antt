-- The answers of `assessment_of`, a law for each way out of its tests.
use mathlib.Core.Path.{◌≡◌}
use Prim.Native.Nat.{ℕ}
use borrow.Author.Tests.{eq-eqb, ne_eqb}
use lib.IntN.{ℤ}
use Rattle.sheet.specs.declared.SheetAnswer.{SheetAnswer}
use Rattle.footprint.specs.declared.Footprint.{Footprint}
use Rattle.risk_class.specs.declared.class_table.IntrinsicClass.{IntrinsicClass}
use Rattle.risk_class.specs.declared.mitigation.FinalClass.{FinalClass}
use Rattle.risk_class.specs.ClassTable.{used_row, intrinsic_class_of}
use Rattle.risk_class.specs.Mitigation.{final_class_of}
use Rattle.assessment.specs.Question.{Question, sheet_asked, footprint_asked}
use Rattle.assessment.specs.Working.{after_class, after_footprint, working_on}
use Rattle.assessment.specs.Assessment.{refused_assessment, assessed_by, assessment_of}

module _ (q : Question) {s : SheetAnswer} (s_is : s ≡ sheet_asked q) where
  pub ended_by_sheet : (s.refusal ≡ 0 → ⊥) → refused_assessment s.refusal ≡ assessment_of q
  unfolding assessment_of
  ended_by_sheet h = simp (← s_is, ne_eqb _ _ h)

  module _ (s_none : s.refusal ≡ 0) {f : Footprint} (f_is : f ≡ footprint_asked q) where
    pub ended_by_footprint : (f.refusal ≡ 0 → ⊥) → refused_assessment f.refusal ≡ assessment_of q
    unfolding assessment_of assessed_by working_on
    ended_by_footprint h = simp (← s_is, eq-eqb _ _ s_none, ← f_is, ne_eqb _ _ h)

    module _ (f_none : f.refusal ≡ 0) {i : IntrinsicClass} (i_is : i ≡ intrinsic_class_of s.sheet.column f.row q.controlled) where
      pub ended_by_class : (i.refusal ≡ 0 → ⊥) → refused_assessment i.refusal ≡ assessment_of q
      unfolding assessment_of assessed_by working_on after_footprint
      ended_by_class h = simp (← s_is, eq-eqb _ _ s_none, ← f_is, eq-eqb _ _ f_none, ← i_is, ne_eqb _ _ h)

      module _ (i_none : i.refusal ≡ 0) {k : FinalClass} (k_is : k ≡ final_class_of s.sheet.column i.class q.word) where
        pub ended_by_mitigation : (k.refusal ≡ 0 → ⊥) → refused_assessment k.refusal ≡ assessment_of q
        unfolding assessment_of assessed_by working_on after_footprint after_class
        ended_by_mitigation h =
            simp (← s_is, eq-eqb _ _ s_none, ← f_is, eq-eqb _ _ f_none, ← i_is, eq-eqb _ _ i_none, ← k_is, ne_eqb _ _ h)

        pub not_refused : {row : ℕ} {class : ℤ} → row ≡ used_row f.row q.controlled → class ≡ k.class → k.refusal ≡ 0 →
            record { refusal = 0; sheet = s.sheet; footprint = f; row_used = row; intrinsic = i.class; final_class = class } ≡ assessment_of q
        unfolding assessment_of assessed_by working_on after_footprint after_class
        not_refused e ec h =
            simp (e, ec, ← s_is, eq-eqb _ _ s_none, ← f_is, eq-eqb _ _ f_none, ← i_is, eq-eqb _ _ i_none, ← k_is, eq-eqb _ _ h)
