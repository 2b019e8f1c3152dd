-- The promises of one intrinsic class and of one final class hold.
use mathlib.Core.Path.{◌≡◌, refl, sym, ap, ◌∙◌, subst}
use mathlib.Core.Logic.{⊎_elim}
use mathlib.Core.Bool.{true, false, not}
use Prim.Native.Nat.{ℕ, suc, ◌+◌, ◌-◌, ◌≤◌, ◌<◌}
use native.Mathlib.Omega.{arith}
use native.Mathlib.Nat.{le_refl}
use borrow.Author.Tests.{lt-ltb, le-ltb, le-leb, eq-eqb, eqb-false, ltb-false, not-false}
use lib.Dec.{T, ltb, eqb}
use lib.IntN.{ℤ, pos, negsuc, sub_ℕ}
use lib.Signed.{lt_z, le_z, ◌≤ℤ◌}
use Rattle.refusal.specs.Refusals.{FirstToHold, AnswerPromise}
use Rattle.refusal.proofs.RefusalsHold.{answer_promise}
use Rattle.arithmetic.proofs.TestLaws.{lt_or_le, neither, inside, any_is}
use Rattle.risk_class.specs.ClassTable.{no_class, class_at, used_row, wrong_column, outside_table, entry_is_none, class_tests, refused_class, accepted_class, intrinsic_class_of}
use Rattle.risk_class.specs.Mitigation.{credit_of, any_not_offered, is_entry, no_entry, after_m1, final_class, final_too_high, mitigation_tests, refused_final, accepted_final, final_class_of}
use Rattle.risk_class.specs.declared.class_table.IntrinsicClass.{IntrinsicClass}
use Rattle.risk_class.specs.declared.mitigation.FinalClass.{FinalClass}
use Rattle.risk_class.specs.Promises.{IntrinsicPromise, FinalPromise}
use Rattle.risk_class.proofs.TableLaws.{class_le, floor_in, table_lower, entry_row}
use Rattle.risk_class.proofs.ClassLaws.{InTable, in_table, used_in}
use Rattle.risk_class.proofs.MitigationLaws.{credits}

-- ---- the intrinsic class

module _ (column row controlled : ℕ) where
  intrinsic_answer : AnswerPromise (λ (a : IntrinsicClass). a.refusal) (class_tests column row controlled)
      (accepted_class (class_at (used_row row controlled) column)) refused_class (intrinsic_class_of column row controlled)
  unfolding intrinsic_class_of
  intrinsic_answer = answer_promise _ _ _ refl (λ n. refl) (class_tests column row controlled) refl

  pub intrinsic_accepted : outside_table column row controlled ≡ false → entry_is_none column row controlled ≡ false
      → (intrinsic_class_of column row controlled).refusal ≡ 0
  intrinsic_accepted o e = (intrinsic_answer.exactly_when 0).1 (o, (e, refl))

  module _ (ok : (intrinsic_class_of column row controlled).refusal ≡ 0) where
    pub class_is : (intrinsic_class_of column row controlled).class ≡ class_at (used_row row controlled) column
    class_is = ap (λ (a : IntrinsicClass). a.class) (intrinsic_answer.if_accepted ok)

    tests_passed : FirstToHold (class_tests column row controlled) 0
    tests_passed = (intrinsic_answer.exactly_when 0).0 ok

    pub read : InTable column row controlled
    read = in_table column row controlled tests_passed.0

    pub used : (1 ≤ used_row row controlled) × (used_row row controlled ≤ 7)
    used = used_in row controlled read.row_ge read.row_le

    pub some_class : class_at (used_row row controlled) column ≡ no_class → ⊥
    some_class = eqb-false (class_at (used_row row controlled) column) no_class tests_passed.1.0

  pub is_entry_lem : (used : ℕ) → 1 ≤ used → used ≤ 7 → 1 ≤ class_at used column → is_entry column (class_at used column) ≡ true
  is_entry_lem used u1 u7 h =
      let e : used - 1 + 1 ≡ used = omega arith in
      simp (
        lt-ltb 0 (class_at used column) h,
        any_is (λ i. eqb (class_at (i + 1) column) (class_at used column)) 7 (used - 1) (omega arith) (eq-eqb _ _ (ap (λ (i : ℕ). class_at i column) e)),
      )

  pub intrinsic_promise : IntrinsicPromise column row controlled
  intrinsic_promise = record {
    answer = intrinsic_answer;
    class_ge = λ ok. omega (arith, class_is ok, some_class ok);
    class_le = λ ok. rw (class_is ok) (class_le (used_row row controlled) column (used ok).0 (used ok).1 (read ok).column_ge (read ok).column_le);
    entry = λ ok. rw (class_is ok) (is_entry_lem (used_row row controlled) (used ok).0 (used ok).1 (omega (arith, some_class ok)));
  }

-- ---- a difference of two numbers, compared

pub above_is : (f d : ℕ) → lt_z (pos 7) (sub_ℕ f d) ≡ ltb (7 + d) f
above_is f d =
    ⊎_elim
    (λ (h : f < d). simp (lt-ltb f d h, le-ltb (7 + d) f (omega arith)))
    (λ (h : d ≤ f). ⊎_elim
    (λ (l : 7 + d < f). simp (le-ltb f d h, lt-ltb (7 + d) f l, lt-ltb 7 (f - d) (omega arith)))
    (λ (l : f ≤ 7 + d). simp (le-ltb f d h, le-ltb (7 + d) f l, le-ltb 7 (f - d) (omega arith)))
    (lt_or_le (7 + d) f))
    (lt_or_le f d)

pub by_le_z : {a b : ℤ} → le_z a b ≡ true → a ≤ℤ b
by_le_z e = record { le = subst T (sym e) tt }

difference_le : (f d k : ℕ) → f ≤ k + d → sub_ℕ f d ≤ℤ pos k
difference_le f d k l =
    by_le_z
    (⊎_elim (λ (h : f < d). simp (lt-ltb f d h)) (λ (h : d ≤ f). simp (le-ltb f d h, le-leb (f - d) k (omega arith))) (lt_or_le f d))

difference_ge : (f d : ℕ) → d ≤ f + 1 → negsuc 0 ≤ℤ sub_ℕ f d
difference_ge f d l =
    by_le_z
    (⊎_elim (λ (h : f < d). simp (lt-ltb f d h, le-leb (d - suc f) 0 (omega arith))) (λ (h : d ≤ f). simp (le-ltb f d h)) (lt_or_le f d))

-- ---- the final class

module _ (column class word : ℕ) where
  final_answer : AnswerPromise (λ (a : FinalClass). a.refusal) (mitigation_tests column class word) (accepted_final (final_class column class word))
      refused_final (final_class_of column class word)
  unfolding final_class_of
  final_answer = answer_promise _ _ _ refl (λ n. refl) (mitigation_tests column class word) refl

  pub final_accepted : no_entry column class ≡ false → any_not_offered word ≡ false → final_too_high column class word ≡ false
      → (final_class_of column class word).refusal ≡ 0
  final_accepted e o h = (final_answer.exactly_when 0).1 (e, (o, (h, refl)))

  pub record Known : Type 0 where
    pub column_ge : 1 ≤ column
    pub column_le : column ≤ 5
    pub entry : is_entry column class ≡ true
    pub offered : any_not_offered word ≡ false
    pub small : after_m1 column class word ≤ 7 + credit_of word 3

  module _ (ok : (final_class_of column class word).refusal ≡ 0) where
    pub final_is : (final_class_of column class word).class ≡ final_class column class word
    final_is = ap (λ (a : FinalClass). a.class) (final_answer.if_accepted ok)

    pub known : Known
    known =
        let passed = (final_answer.exactly_when 0).0 ok in
        let n = neither (wrong_column column) (not (is_entry column class)) passed.0 in
        let c = inside 1 5 column n.0 in
        record {
          column_ge = c.0;
          column_le = c.1;
          entry = not-false _ n.1;
          offered = passed.1.0;
          small = ltb-false (7 + credit_of word 3) (after_m1 column class word) (sym (above_is (after_m1 column class word) (credit_of word 3)) ∙ passed.1.1.0);
        }

    -- the floor isn't above the class, so no M1 credit raises it
    m1_le : (1 ≤ after_m1 column class word) × (after_m1 column class word ≤ class)
    m1_le =
        let k = known in
        let e = entry_row column class k.entry in
        let f = floor_in column k.column_ge k.column_le in
        let low = table_lower e.0 column 1 column e.2 k.column_le (omega arith) e.1 k.column_ge (le_refl column) (λ z. omega (arith, e.3, e.4, z)) in
        omega (arith, e.3, f, low)

  pub final_promise : FinalPromise column class word
  final_promise = record {
    answer = final_answer;
    class_ge = λ ok. rw (final_is ok)
        (difference_ge (after_m1 column class word) (credit_of word 3) (omega (arith, m1_le ok, (credits word (known ok).offered).m2)));
    class_le = λ ok. rw (final_is ok) (difference_le (after_m1 column class word) (credit_of word 3) 7 (known ok).small);
    not_raised = λ ok. rw (final_is ok) (difference_le (after_m1 column class word) (credit_of word 3) class (omega (arith, m1_le ok)));
  }
