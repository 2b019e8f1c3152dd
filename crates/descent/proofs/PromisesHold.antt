-- What is promised of every descent.
use mathlib.Core.Path.{◌≡◌, refl, sym, ap, ◌∙◌}
use mathlib.Core.Logic.{◌⊎◌, inl, inr, ⊎_elim, ◌↔◌}
use mathlib.Core.Bool.{Bool, true, false, false≢true}
use mathlib.Core.List.{List, [], ◌∷◌}
use Prim.Native.Nat.{ℕ, suc, ◌≤◌, ◌<◌}
use native.Mathlib.Nat.{le_refl, le_trans, lt_of_lt_of_le, le_of_suc-le-suc, eq-or-lt_of_le}
use native.Mathlib.Omega.{arith}
use lib.Dec.{eqb, lit≤}
use borrow.Author.Tests.{eqb-true, eqb-false}
use Rattle.arithmetic.specs.Conditions.{outside}
use Rattle.refusal.specs.Refusals.{Test, first_refusal, FirstToHold, OneOf}
use Rattle.refusal.proofs.RefusalLaws.{first_exactly_when, use_of, first_listed, one_of_more, one_of_le, refused_by, accepted_by}
use Rattle.arithmetic.proofs.TestLaws.{lt_or_le, neither, inside, not_outside}
use Rattle.sheet.proofs.RangeLaws.{within, tests_fail}
use Rattle.frontal_area.specs.FrontalArea.{first_dimension, last_dimension}
use Rattle.fall.specs.Numbers.{in_metres}
use Rattle.descent.specs.Descent.{speed_negative, ground_reached, landed, refused_descent, fall_of, height_max, budget_max, descent_tests, descent_of}
use Rattle.descent.specs.Promises.{state_of, InTheAir, EndsAt, TurnsNegativeAt, DescentInRange, DescentPromise, BudgetLaw, DescentLaws}
use Rattle.descent.specs.declared.Descent.{Descent}
use Rattle.fall.specs.declared.Fall.{Fall}
use Rattle.descent.proofs.FirstState.{division_nearest}
use Rattle.descent.proofs.StateLaws.{AirTo, Outcome, lasting, landing, turning, outcome, all_in_the_air, lands, turns, first_in_the_air, from_first}

-- ---- the numbers of the inputs' refusals

abbrev input_numbers : List ℕ
input_numbers = 1 ∷ 2 ∷ 3 ∷ 16 ∷ 17 ∷ []

input_least : (n : ℕ) → OneOf n input_numbers → 1 ≤ n
input_least n (inl e) = omega arith
input_least n (inr (inl e)) = omega arith
input_least n (inr (inr (inl e))) = omega arith
input_least n (inr (inr (inr (inl e)))) = omega arith
input_least n (inr (inr (inr (inr (inl e))))) = omega arith
input_least n (inr (inr (inr (inr (inr e))))) = absurd e

input_most : (n : ℕ) → OneOf n input_numbers → n ≤ 17
input_most n h = one_of_le 17 n input_numbers refl h

module _ (w m v height budget : ℕ) where
  abbrev tests : List Test
  tests = descent_tests w m v height budget

  abbrev first : ℕ
  first = first_refusal tests

  abbrev a : Descent
  a = descent_of w m v height budget

  exactly : (n : ℕ) → first ≡ n ↔ FirstToHold tests n
  exactly n = first_exactly_when tests refl n

  in_range : first ≡ 0 → DescentInRange w m v height budget
  in_range e = use_of tests 0 ((exactly 0).0 e) (λ d k s f g.
      let l = inside first_dimension last_dimension w f in
      let o = neither (outside 1 height_max height) (outside 1 budget_max budget) g in
      let h = inside 1 height_max height o.0 in
      let b = inside 1 budget_max budget o.1 in
      record {
        aircraft = record { ranges = within w m v d k s; dimension_least = l.0; dimension_most = l.1 };
        height_least = h.0;
        height_most = h.1;
        budget_least = b.0;
        budget_most = b.1;
      })

  none_first : DescentInRange w m v height budget → first ≡ 0
  none_first r =
      let t = tests_fail w m v r.aircraft.ranges in
      let f = not_outside first_dimension last_dimension w r.aircraft.dimension_least r.aircraft.dimension_most in
      let h = not_outside 1 height_max height r.height_least r.height_most in
      let b = not_outside 1 budget_max budget r.budget_least r.budget_most in
      (exactly 0).1 (t.0, (t.1, (t.2, (f, (simp (h, b), refl)))))

  accepted : first ≡ 0 → fall_of w m v height budget ≡ a
  unfolding descent_of
  accepted = accepted_by (fall_of w m v height budget) refused_descent tests refl refl

  first_input : (first ≡ 0 → ⊥) → OneOf first input_numbers
  first_input z = ⊎_elim (λ (e : first ≡ 0). absurd (z e)) (λ (l : OneOf first input_numbers). l) (first_listed tests)

  -- ---- refused by its inputs

  module _ (z : first ≡ 0 → ⊥) where
    refused : a ≡ refused_descent first
    unfolding descent_of
    refused = sym (refused_by (fall_of w m v height budget) refused_descent tests refl refl z)

    refusal : a.refusal ≡ first
    refusal = ap (λ (x : Descent). x.refusal) refused

    number : (n : ℕ) → 18 ≤ n → a.refusal ≡ n → ⊥
    number n h e = let most = input_most first (first_input z) in absurd (omega (arith, refusal, most))

    refused_promise : DescentPromise w m v height budget a
    refused_promise =
        record {
          inputs = λ n o. (λ e. (exactly n).0 (sym refusal ∙ e), λ f. refusal ∙ (exactly n).1 f);
          eighteen = (λ e. absurd (number 18 (lit≤ tt) e), λ p. absurd (z (none_first p.0)));
          nineteen = (λ e. absurd (number 19 (lit≤ tt) e), λ p. absurd (z (none_first p.ranges)));
          none = (λ e. absurd (z (sym refusal ∙ e)), λ p. absurd (z (none_first p.ranges)));
          listed = rw refusal (one_of_more first input_numbers (0 ∷ 1 ∷ 2 ∷ 3 ∷ 16 ∷ 17 ∷ 18 ∷ 19 ∷ []) refl (first_input z));
          if_accepted = λ e. absurd (z (sym refusal ∙ e));
          if_refused = λ _. refused ∙ ap refused_descent (sym refusal);
        }

  -- ---- judged by its fall

  module _ (r : DescentInRange w m v height budget) where
    fallen : a ≡ fall_of w m v height budget
    fallen = sym (accepted (none_first r))

    -- the first state among those in the air
    air_from : (n : ℕ) → AirTo w m v height n → (k : ℕ) → k ≤ n → InTheAir height (state_of w m v k)
    air_from = from_first w m v height (first_in_the_air w m v height r.height_least r.height_most r.aircraft.ranges.speed_most)

    -- no input is refused
    no_input : (x : ℕ) → a.refusal ≡ x → (x ≡ 0) ⊎ (18 ≤ x) → (n : ℕ) → OneOf n input_numbers → a.refusal ≡ n ↔ FirstToHold tests n
    no_input x e range n o =
        let least = input_least n o in
        let most = input_most n o in (
          λ q. ⊎_elim (λ (z : x ≡ 0). absurd (omega (arith, e, q, least))) (λ (h : 18 ≤ x). absurd (omega (arith, e, q, most))) range,
          λ f. absurd (omega (arith, (exactly n).1 f, none_first r, least)),
        )

    other : (x n : ℕ) → a.refusal ≡ x → (x ≡ n → ⊥) → a.refusal ≡ n → ⊥
    other x n e d q = d (sym e ∙ q)

    module _ (air : AirTo w m v height budget) where
      spent_18 : a ≡ refused_descent 18
      spent_18 = fallen ∙ all_in_the_air w m v height budget air

      spent_number : a.refusal ≡ 18
      spent_number = ap (λ (x : Descent). x.refusal) spent_18

      spent_promise : DescentPromise w m v height budget a
      spent_promise =
          record {
            inputs = no_input 18 spent_number (inr (le_refl 18));
            eighteen = (λ _. (r, air_from budget air), λ _. spent_number);
            nineteen = (λ e. absurd (other 18 19 spent_number (λ q. absurd (omega arith)) e), λ p. absurd (false≢true (sym (air p.number p.least p.most).not_negative ∙ p.holds.negative)));
            none = (λ e. absurd (other 18 0 spent_number (λ q. absurd (omega arith)) e), λ p. absurd (false≢true (sym (air p.number p.least p.most).short ∙ p.holds.reached)));
            listed = rw spent_number (inr (inr (inr (inr (inr (inr (inl refl)))))));
            if_accepted = λ e. absurd (other 18 0 spent_number (λ q. absurd (omega arith)) e);
            if_refused = λ _. spent_18 ∙ ap refused_descent (sym spent_number);
          }

    -- a first state out of the air, number n + 1
    module _ (n : ℕ) (h : n < budget) (air : AirTo w m v height n) where
      abbrev end : Fall
      end = state_of w m v (suc n)

      -- a number up to n, n + 1 itself, or a larger one
      by_number : {R : Type 0} → (k : ℕ) → (k ≤ n → R) → (k ≡ suc n → R) → (suc n < k → R) → R
      by_number k below here after =
          ⊎_elim (λ (l : k < suc n). below (le_of_suc-le-suc l)) (λ (q : suc n ≤ k). ⊎_elim (λ (e : suc n ≡ k). here (sym e)) after (eq-or-lt_of_le q)) (lt_or_le k (suc n))

      module _ (e : speed_negative end ≡ false) (g : ground_reached (in_metres height) end ≡ true) where
        landed_there : a ≡ landed (suc n) end
        landed_there = fallen ∙ lands w m v height budget n h air e g

        landed_number : a.refusal ≡ 0
        landed_number = ap (λ (x : Descent). x.refusal) landed_there

        ends : EndsAt w m v height (suc n)
        ends = record { reached = g; not_negative = e; earlier = λ k l. air_from n air k (le_of_suc-le-suc l) }

        not_19 : (k : ℕ) → 1 ≤ k → TurnsNegativeAt w m v height k → ⊥
        not_19 k l t =
            by_number k (λ q. false≢true (sym (air k l q).not_negative ∙ t.negative))
            (λ q. false≢true (sym e ∙ ap (λ (i : ℕ). speed_negative (state_of w m v i)) (sym q) ∙ t.negative))
            (λ q. false≢true (sym (t.short (suc n) q) ∙ g))

        landed_promise : DescentPromise w m v height budget a
        landed_promise =
            record {
              inputs = no_input 0 landed_number (inl refl);
              eighteen = (λ q. absurd (other 0 18 landed_number (λ q. absurd (omega arith)) q), λ p. absurd (false≢true (sym (p.1 (suc n) h).short ∙ g)));
              nineteen = (λ q. absurd (other 0 19 landed_number (λ q. absurd (omega arith)) q), λ p. absurd (not_19 p.number p.least p.holds));
              none = (λ _. record { ranges = r; number = suc n; least = omega arith; most = h; holds = ends }, λ _. landed_number);
              listed = rw landed_number (inl refl);
              if_accepted = λ _. rw landed_there record { end_is = refl; ends = ends; steps_least = omega arith; steps_most = h; verdict = refl };
              if_refused = λ z. absurd (z landed_number);
            }

      module _ (e : speed_negative end ≡ true) where
        turned_19 : a ≡ refused_descent 19
        turned_19 = fallen ∙ turns w m v height budget n h air e

        turned_number : a.refusal ≡ 19
        turned_number = ap (λ (x : Descent). x.refusal) turned_19

        not_landed : (k : ℕ) → 1 ≤ k → EndsAt w m v height k → ⊥
        not_landed k l t =
            by_number k (λ q. false≢true (sym (air k l q).short ∙ t.reached))
            (λ q. false≢true (sym t.not_negative ∙ ap (λ (i : ℕ). speed_negative (state_of w m v i)) q ∙ e))
            (λ q. false≢true (sym (t.earlier (suc n) q).not_negative ∙ e))

        turned_promise : DescentPromise w m v height budget a
        turned_promise =
            record {
              inputs = no_input 19 turned_number (inr (lit≤ tt));
              eighteen = (λ q. absurd (other 19 18 turned_number (λ q. absurd (omega arith)) q), λ p. absurd (false≢true (sym (p.1 (suc n) h).not_negative ∙ e)));
              nineteen = (λ _. record { ranges = r; number = suc n; least = omega arith; most = h; holds = record { negative = e; short = λ k l. (air_from n air k (le_of_suc-le-suc l)).short } }, λ _. turned_number);
              none = (λ q. absurd (other 19 0 turned_number (λ q. absurd (omega arith)) q), λ p. absurd (not_landed p.number p.least p.holds));
              listed = rw turned_number (inr (inr (inr (inr (inr (inr (inr (inl refl))))))));
              if_accepted = λ q. absurd (other 19 0 turned_number (λ q. absurd (omega arith)) q);
              if_refused = λ _. turned_19 ∙ ap refused_descent (sym turned_number);
            }

    fall_promise : Outcome w m v height budget → DescentPromise w m v height budget a
    fall_promise (lasting air) = spent_promise air
    fall_promise (landing n h air e g) = landed_promise n h air e g
    fall_promise (turning n h air e) = turned_promise n h air e

  promise : DescentPromise w m v height budget a
  promise = by_test (eqb first 0) refl
    where
      by_test : (t : Bool) → eqb first 0 ≡ t → DescentPromise w m v height budget a
      by_test true e = fall_promise (in_range (eqb-true first 0 e)) (outcome w m v height budget)
      by_test false e = refused_promise (eqb-false first 0 e)

-- ---- a larger budget

module _ (w m v height budget more : ℕ) (l : budget ≤ more) (h : more ≤ budget_max) where
  -- where the fall ends, it ends in the same way
  module _ (r : DescentInRange w m v height budget) (e : (descent_of w m v height budget).refusal ≡ 18 → ⊥) where
    with_more : DescentInRange w m v height more
    with_more =
        record {
          aircraft = r.aircraft;
          height_least = r.height_least;
          height_most = r.height_most;
          budget_least = le_trans r.budget_least l;
          budget_most = h;
        }

    same_fall : Outcome w m v height budget → fall_of w m v height more ≡ fall_of w m v height budget
    same_fall (lasting air) = absurd (e (spent_number w m v height budget r air))
    same_fall (landing n k air f g) = lands w m v height more n (lt_of_lt_of_le k l) air f g ∙ sym (lands w m v height budget n k air f g)
    same_fall (turning n k air f) = turns w m v height more n (lt_of_lt_of_le k l) air f ∙ sym (turns w m v height budget n k air f)

    same_answer : descent_of w m v height more ≡ descent_of w m v height budget
    same_answer = fallen w m v height more with_more ∙ same_fall (outcome w m v height budget) ∙ sym (fallen w m v height budget r)

  not_18 : (n : ℕ) → (n ≡ 18 → ⊥) → (descent_of w m v height budget).refusal ≡ n → (descent_of w m v height budget).refusal ≡ 18 → ⊥
  not_18 n d e q = d (sym e ∙ q)

  budget_law : BudgetLaw w m v height budget more
  budget_law =
      let p = promise w m v height budget in
      record {
        accepted = λ e. same_answer (p.none.0 e).ranges (not_18 0 (λ q. absurd (omega arith)) e);
        refused_19 = λ e. same_answer (p.nineteen.0 e).ranges (not_18 19 (λ q. absurd (omega arith)) e);
      }

pub descent_laws : DescentLaws
descent_laws = record { division = division_nearest; promise = promise; budget = budget_law }
