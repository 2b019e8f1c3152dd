-- An answer of the greatest number up to the most that passes, after tests of what is given and then refusal 21, that none does.
use mathlib.Core.Path.{◌≡◌, refl, sym, ap, ◌∙◌, subst}
use mathlib.Core.Logic.{◌↔◌}
use mathlib.Core.Bool.{Bool, true, false}
use mathlib.Core.List.{List, [], ◌∷◌, ◌++◌}
use Prim.Native.Nat.{ℕ, ◌+◌, ◌≤◌}
use Rattle.refusal.specs.Refusals.{Test, ◌when◌, answered, distinct, FirstToHold, AnswerPromise}
use Rattle.refusal.proofs.RefusalLaws.{none_numbered, first_after}
use Rattle.refusal.proofs.RefusalsHold.{answer_promise}
use Rattle.trade_off.specs.TradeOff.{greatest_below}
use Rattle.trade_off.proofs.GreatestLaws.{none_to, Greatest, none_passes, one_passes, greatest_given}

-- an answer with a refusal number and a value
pub record AnswerForm (A : Type 0) : Type 0 where
  pub accepted : ℕ → A
  pub refused : ℕ → A
  pub refusal : A → ℕ
  pub value : A → ℕ
  pub not_refused : (n : ℕ) → refusal (accepted n) ≡ 0
  pub its_number : (n : ℕ) → refusal (refused n) ≡ n
  pub its_value : (n : ℕ) → value (accepted n) ≡ n

module _ {A : Type 0} (form : AnswerForm A) (given : List Test) (p : ℕ → Bool) (most : ℕ) where
  abbrev tests : List Test
  tests = given ++ (21 when none_to p most ∷ [])

  abbrev answer : A
  answer = answered tests (form.accepted (greatest_below p (most + 1))) form.refused

  -- the numbers of the tests are others
  module _ (d : distinct tests ≡ true) (no_0 : none_numbered 0 given ≡ true) (no_21 : none_numbered 21 given ≡ true) where
    pub promise : AnswerPromise form.refusal tests (form.accepted (greatest_below p (most + 1))) form.refused answer
    promise = answer_promise (form.accepted (greatest_below p (most + 1))) form.refused form.refusal (form.not_refused _) form.its_number tests d

    -- an accepted answer is of what passes the tests, and is the greatest
    pub accepted_given : form.refusal answer ≡ 0 → FirstToHold given 0 × Greatest p (most + 1) (form.value answer)
    accepted_given e =
        let h = (first_after given (21 when none_to p most ∷ []) 0 no_0 no_0).0 ((promise.exactly_when 0).0 e) in
        (h.0, subst (Greatest p (most + 1)) (sym (ap form.value (promise.if_accepted e) ∙ form.its_value _)) (greatest_given p most h.1.0))

    -- and it is accepted where a number passes
    pub given_accepted : FirstToHold given 0 → (n : ℕ) → n ≤ most → p n ≡ true → form.refusal answer ≡ 0
    given_accepted h n l k =
        (promise.exactly_when 0).1 ((first_after given (21 when none_to p most ∷ []) 0 no_0 no_0).1 (h, (one_passes p most n l k, refl)))

    pub refused_21 : form.refusal answer ≡ 21 ↔ FirstToHold given 0 × ((n : ℕ) → n ≤ most → p n ≡ false)
    refused_21 = (
      λ e.
          let h = (first_after given (21 when none_to p most ∷ []) 21 no_0 no_21).0 ((promise.exactly_when 21).0 e) in
          (h.0, (none_passes p most).0 h.1),
      λ h. (promise.exactly_when 21).1 ((first_after given (21 when none_to p most ∷ []) 21 no_0 no_21).1 (h.0, (none_passes p most).1 h.1)),
    )
