-- The promises of specs/Promises.antt hold.
use mathlib.Core.Path.{◌≡◌, refl, sym, ap}
use mathlib.Core.Logic.{inl}
use mathlib.Core.Bool.{Bool, true, false, cond}
use mathlib.Core.List.{List, ◌∷◌}
use Prim.Native.Nat.{ℕ}
use borrow.Author.Tests.{eq-eqb}
use lib.Dec.{eqb}
use Rattle.refusal.specs.Refusals.{numbers, OneOf}
use Rattle.refusal.proofs.RefusalLaws.{one_of_more}
use Rattle.arithmetic.proofs.TestLaws.{went_on}
use Rattle.sheet.specs.Sheet.{sheet_tests, sheet_of}
use Rattle.sheet.proofs.AcceptanceHolds.{sheet_promise}
use Rattle.map.specs.Map.{Map}
use Rattle.map.specs.Refusals.{map_tests}
use Rattle.footprint.specs.declared.Footprint.{Footprint}
use Rattle.footprint.specs.Footprint.{footprint_of}
use Rattle.footprint.proofs.PromisesHold.{footprint_promise}
use Rattle.risk_class.specs.ClassTable.{class_tests, intrinsic_class_of}
use Rattle.risk_class.specs.Mitigation.{mitigation_tests, final_class_of}
use Rattle.risk_class.proofs.PromisesHold.{intrinsic_promise, final_promise}
use Rattle.assessment.specs.declared.Assessment.{Assessment}
use Rattle.assessment.specs.Question.{Question, sheet_asked, footprint_asked}
use Rattle.assessment.specs.Working.{Working, whole_working, ended_before, ended_after, after_class, after_footprint, working_on, working_at}
use Rattle.assessment.specs.Assessment.{refused_assessment, assessed_by, assessment_of}
use Rattle.assessment.specs.Promises.{assessment_refusals, AssessmentPromise, intrinsic_asked, final_asked, AssessmentParts}
use Rattle.assessment.proofs.WaysOut.{not_refused}

-- ---- the refusal is listed, and a refused assessment is all zeros

-- a number of q's refusals, or 0; which question it is makes no difference, since the numbers of a list don't depend on what is tested
module _ (q : Question) where
  abbrev Listed : ℕ → Type 0
  Listed n = OneOf n (0 ∷ assessment_refusals q)

  -- a working goes on, or ends with a refusal
  ends : (t : Bool) (x y : Working) → Listed x.refusal → Listed y.refusal → Listed (cond t x y).refusal
  ends true x y h k = h
  ends false x y h k = k

  class_listed : (column row controlled : ℕ) → Listed (intrinsic_class_of column row controlled).refusal
  class_listed column row controlled =
      one_of_more _ (0 ∷ numbers (class_tests column row controlled)) (0 ∷ assessment_refusals q) refl (intrinsic_promise column row controlled).answer.listed

  final_listed : (column class word : ℕ) → Listed (final_class_of column class word).refusal
  final_listed column class word =
      one_of_more _ (0 ∷ numbers (mitigation_tests column class word)) (0 ∷ assessment_refusals q) refl (final_promise column class word).answer.listed

  footprint_listed : (map : Map) (marks : List ℕ) → Listed (footprint_of map marks).refusal
  footprint_listed map marks =
      one_of_more _ (0 ∷ numbers (map_tests map marks)) (0 ∷ assessment_refusals q) refl (footprint_promise map marks).answer.listed

  sheet_listed : (w m v : ℕ) → Listed (sheet_of w m v).refusal
  sheet_listed w m v = one_of_more _ (0 ∷ numbers (sheet_tests w m v)) (0 ∷ assessment_refusals q) refl (sheet_promise w m v).listed

  after_class_lem : (column class word : ℕ) → Listed (after_class column class word).refusal
  unfolding after_class
  after_class_lem column class word = ends (eqb (final_class_of column class word).refusal 0) _ _ (inl refl) (final_listed column class word)

  after_footprint_lem : (column row controlled word : ℕ) → Listed (after_footprint column row controlled word).refusal
  unfolding after_footprint
  after_footprint_lem column row controlled word =
      ends (eqb (intrinsic_class_of column row controlled).refusal 0) _ _ (after_class_lem column _ word) (class_listed column row controlled)

  working_listed : (column : ℕ) (footprint : Footprint) (controlled word : ℕ) → Listed footprint.refusal → Listed (working_on column footprint controlled word).refusal
  unfolding working_on
  working_listed column footprint controlled word h =
      ends (eqb footprint.refusal 0) _ _ (after_footprint_lem column footprint.row controlled word) h

  -- an assessment that is refused with a listed number, or not refused
  record IsPromised (a : Assessment) : Type 0 where
    listed : Listed a.refusal
    if_refused : (a.refusal ≡ 0 → ⊥) → a ≡ refused_assessment a.refusal

  refused_is : (n : ℕ) → Listed n → IsPromised (refused_assessment n)
  refused_is n h = record { listed = h; if_refused = λ _. refl }

  accepted_is : (a : Assessment) → a.refusal ≡ 0 → IsPromised a
  accepted_is a e = record { listed = inl e; if_refused = λ h. absurd (h e) }

  chosen : (t : Bool) (a : Assessment) (n : ℕ) → IsPromised a → Listed n → IsPromised (cond t a (refused_assessment n))
  chosen true a n p h = p
  chosen false a n p h = refused_is n h

  promised : IsPromised (assessment_of q)
  unfolding assessment_of assessed_by
  promised =
      chosen (eqb (sheet_asked q).refusal 0) _ _
      (chosen (eqb (working_at column q).refusal 0) _ _ (accepted_is _ refl)
      (working_listed column (footprint_asked q) q.controlled q.word (footprint_listed q.map q.marks)))
      (sheet_listed q.dimension q.mass q.speed)
    where
      column : ℕ
      column = (sheet_asked q).sheet.column

  pub assessment_promise : AssessmentPromise q
  assessment_promise = record { listed = promised.listed; if_refused = promised.if_refused }

-- ---- an assessment that isn't refused has every part given, and shows them

module _ (q : Question) (none : (assessment_of q).refusal ≡ 0) where
  abbrev column : ℕ
  column = (sheet_asked q).sheet.column

  abbrev class : ℕ
  class = (intrinsic_asked q).class

  sheet_none : (sheet_asked q).refusal ≡ 0
  unfolding assessment_of
  sheet_none = went_on (λ (a : Assessment). a.refusal) (sheet_asked q).refusal _ (refused_assessment (sheet_asked q).refusal) refl none

  working_none : (working_at column q).refusal ≡ 0
  unfolding assessment_of assessed_by
  working_none = went_on (λ (a : Assessment). a.refusal) (working_at column q).refusal _ (refused_assessment _) refl (simp (eq-eqb _ _ sheet_none) at none)

  footprint_none : (footprint_asked q).refusal ≡ 0
  unfolding working_on
  footprint_none = went_on (λ (x : Working). x.refusal) (footprint_asked q).refusal _ (ended_before _) refl working_none

  after_none : (after_footprint column (footprint_asked q).row q.controlled q.word).refusal ≡ 0
  unfolding working_on
  after_none = simp (eq-eqb _ _ footprint_none) at working_none

  intrinsic_none : (intrinsic_asked q).refusal ≡ 0
  unfolding after_footprint
  intrinsic_none = went_on (λ (x : Working). x.refusal) (intrinsic_asked q).refusal _ (ended_before _) refl after_none

  final_none : (final_asked q).refusal ≡ 0
  unfolding after_footprint after_class
  final_none =
      went_on (λ (x : Working). x.refusal) (final_asked q).refusal _ (ended_after class _) refl
      (simp (eq-eqb _ _ intrinsic_none) at after_none)

  whole : working_at column q ≡ whole_working class (final_asked q).class
  unfolding working_on after_footprint after_class
  whole = simp (eq-eqb _ _ footprint_none, eq-eqb _ _ intrinsic_none, eq-eqb _ _ final_none)

  pub assessment_parts : AssessmentParts q
  assessment_parts =
      let is = sym (not_refused q refl sheet_none refl footprint_none refl intrinsic_none refl refl refl final_none)
      in record {
        sheet_accepted = sheet_none;
        footprint_accepted = footprint_none;
        intrinsic_given = intrinsic_none;
        final_given = final_none;
        sheet = ap (λ (a : Assessment). a.sheet) is;
        footprint = ap (λ (a : Assessment). a.footprint) is;
        row_used = ap (λ (a : Assessment). a.row_used) is;
        intrinsic = ap (λ (a : Assessment). a.intrinsic) is;
        final_class = ap (λ (a : Assessment). a.final_class) is;
        working = rw is whole;
      }
