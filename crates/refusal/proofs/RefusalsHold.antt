-- What specs/Refusals.antt promises of an answer after tests, for every list with distinct numbers.
use mathlib.Core.Path.{◌≡◌, sym, ◌∙◌, subst}
use mathlib.Core.Bool.{Bool, true, false, cond}
use mathlib.Core.List.{List, [], ◌∷◌}
use Prim.Native.Nat.{ℕ}
use borrow.Author.Tests.{eq-eqb, ne_eqb}
use Rattle.refusal.specs.Refusals.{Test, OneOf, answered, first_refusal, numbers, distinct, AnswerPromise}
use Rattle.refusal.proofs.RefusalLaws.{first_exactly_when, first_listed, by_number}

module _ {A : Type 0} (accepted : A) (refused : ℕ → A) (refusal : A → ℕ) (accepted_0 : refusal accepted ≡ 0) (refused_n : (n : ℕ) → refusal (refused n) ≡ n) where
  number_is : (ts : List Test) → refusal (answered ts accepted refused) ≡ first_refusal ts
  number_is [] = accepted_0
  number_is (t ∷ ts) = by_test t.holds (number_is ts)
    where
      by_test : (b : Bool) → refusal (answered ts accepted refused) ≡ first_refusal ts
          → refusal (cond b (refused t.number) (answered ts accepted refused)) ≡ cond b t.number (first_refusal ts)
      by_test true rest = refused_n t.number
      by_test false rest = rest

  pub answer_promise : (ts : List Test) → distinct ts ≡ true → AnswerPromise refusal ts accepted refused (answered ts accepted refused)
  answer_promise ts d =
      let e = number_is ts in
      let whole = by_number accepted refused ts d in
      record {
        exactly_when = λ n. (λ k. (first_exactly_when ts d n).0 (sym e ∙ k), λ k. e ∙ (first_exactly_when ts d n).1 k);
        listed = subst (λ n. OneOf n (0 ∷ numbers ts)) (sym e) (first_listed ts);
        if_accepted = λ z. sym whole ∙ simp (eq-eqb _ _ (sym e ∙ z));
        if_refused = λ z. sym whole ∙ simp (ne_eqb _ _ (λ k. z (e ∙ k)), e);
      }
