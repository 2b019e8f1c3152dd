-- What is promised of every intrinsic and final class, beyond the definitions. The proofs are in proofs/PromisesHold.antt.
use Rattle.std.specs.Prelude.{◌≡◌, true, ℕ, ◌≤◌, pos, negsuc, ◌≤ℤ◌}
use Rattle.refusal.specs.Refusals.{AnswerPromise}
use Rattle.risk_class.specs.ClassTable.{class_at, used_row, class_tests, refused_class, accepted_class, intrinsic_class_of}
use Rattle.risk_class.specs.Mitigation.{is_entry, final_class, mitigation_tests, refused_final, accepted_final, final_class_of}
use Rattle.risk_class.specs.declared.class_table.IntrinsicClass.{IntrinsicClass}
use Rattle.risk_class.specs.declared.mitigation.FinalClass.{FinalClass}

-- each refusal exactly when its test is the first that holds, and then "every number is zero" (demand 1); a class that is given is 1 to 10 and an entry of
-- its column
pub record IntrinsicPromise (column row controlled : ℕ) : Type 0 where
  pub answer : AnswerPromise (λ (a : IntrinsicClass). a.refusal) (class_tests column row controlled) (accepted_class (class_at (used_row row controlled) column))
      refused_class (intrinsic_class_of column row controlled)
  pub class_ge : (intrinsic_class_of column row controlled).refusal ≡ 0 → 1 ≤ (intrinsic_class_of column row controlled).class
  pub class_le : (intrinsic_class_of column row controlled).refusal ≡ 0 → (intrinsic_class_of column row controlled).class ≤ 10
  pub entry : (intrinsic_class_of column row controlled).refusal ≡ 0
      → is_entry column (intrinsic_class_of column row controlled).class ≡ true

-- the same of the final class, which is −1 to 7; no mitigation word raises a class
pub record FinalPromise (column class word : ℕ) : Type 0 where
  pub answer : AnswerPromise (λ (a : FinalClass). a.refusal) (mitigation_tests column class word) (accepted_final (final_class column class word))
      refused_final (final_class_of column class word)
  pub class_ge : (final_class_of column class word).refusal ≡ 0 → negsuc 0 ≤ℤ (final_class_of column class word).class
  pub class_le : (final_class_of column class word).refusal ≡ 0 → (final_class_of column class word).class ≤ℤ pos 7
  pub not_raised : (final_class_of column class word).refusal ≡ 0 → (final_class_of column class word).class ≤ℤ pos class
