-- The states of a fall, one after the other: where it ends, where a speed turns negative, or that all are in the air.
use mathlib.Core.Path.{◌≡◌, refl, ap, ◌∙◌}
use mathlib.Core.Logic.{⊎_elim}
use mathlib.Core.Bool.{Bool, true, false}
use Prim.Native.Nat.{ℕ, zero, suc, ◌-◌, ◌≤◌, ◌<◌}
use native.Mathlib.Nat.{sub-zero, sub_self, eq-or-lt_of_le, le_of_suc-le-suc, le_refl, le_trans}
use native.Mathlib.Numerals.{add-one}
use native.Mathlib.Omega.{arith}
use lib.Dec.{lit≤, lit<}
use lib.IntN.{pos}
use lib.Ieee.{lt}
use Rattle.sheet.specs.Ranges.{speed_max}
use Rattle.fall.specs.Numbers.{whole, in_metres}
use Rattle.fall.specs.Step.{next_state, state_after}
use Rattle.descent.specs.Descent.{body_of, first_state, speed_negative, ground_reached, landed, refused_descent, fall_from, fall_of, height_max}
use Rattle.descent.specs.Promises.{state_of, InTheAir}
use Rattle.fall.specs.declared.Fall.{Fall}
use Rattle.descent.specs.declared.Descent.{Descent}
use Rattle.fall.proofs.FloatLaws.{zero_made, finite_not_below}
use Rattle.descent.proofs.FirstState.{division_nearest, not_below, beyond}
use Rattle.descent.proofs.FallLaws.{spent, refused_19, ground, in_the_air}

module _ (w m v height : ℕ) where
  abbrev pub at : ℕ → Fall
  at = state_of w m v

  abbrev left : ℕ → ℕ → Fall → Descent
  left = fall_from (body_of w m) (in_metres height)

  -- states 1 to n are in the air
  abbrev pub AirTo : ℕ → Type 0
  AirTo n = (k : ℕ) → 1 ≤ k → k ≤ n → InTheAir height (at k)

  made : (n : ℕ) → at (suc n) ≡ next_state (body_of w m) (at n)
  unfolding state_after
  made n = refl

  first_is : at 0 ≡ first_state v
  unfolding state_after
  first_is = refl

  -- from the first state to the n-th
  through : (budget n : ℕ) → n ≤ budget → AirTo n → left budget 0 (first_state v) ≡ left (budget - n) n (at n)
  through budget zero h air = simp (sub-zero, first_is)
  through budget (suc n) h air =
      let here = air (suc n) (omega arith) (le_refl _) in
      through budget n (omega arith) (λ k l q. air k l (omega arith))
      ∙ in_the_air (body_of w m) (in_metres height) budget n (at n) h (made n) here.not_negative here.short
      ∙ ap (λ (k : ℕ). left (budget - k) k (at (suc n))) (add-one n)

  -- all in the air; the first that isn't, state n + 1, at the ground or with a negative speed
  pub all_in_the_air : (budget : ℕ) → AirTo budget → fall_of w m v height budget ≡ refused_descent 18
  unfolding fall_of
  all_in_the_air budget air =
      through budget budget (le_refl _) air ∙ ap (λ (k : ℕ). left k budget (at budget)) (sub_self budget) ∙ spent (body_of w m) (in_metres height) budget (at budget)

  module _ (budget n : ℕ) (h : n < budget) (air : AirTo n) where
    pub lands : speed_negative (at (suc n)) ≡ false → ground_reached (in_metres height) (at (suc n)) ≡ true → fall_of w m v height budget ≡ landed (suc n) (at (suc n))
    unfolding fall_of
    lands e g =
        through budget n (omega arith) air
        ∙ ground (body_of w m) (in_metres height) budget n (at n) h (made n) e g
        ∙ ap (λ (k : ℕ). landed k (at (suc n))) (add-one n)

    pub turns : speed_negative (at (suc n)) ≡ true → fall_of w m v height budget ≡ refused_descent 19
    unfolding fall_of
    turns e = through budget n (omega arith) air ∙ refused_19 (body_of w m) (in_metres height) budget n (at n) h (made n) e

  -- what comes of a fall: the first state out of the air, or none
  pub data Outcome (budget : ℕ) : Type 0 where
    lasting : AirTo budget → Outcome budget
    landing : (n : ℕ) → n < budget → AirTo n → speed_negative (at (suc n)) ≡ false → ground_reached (in_metres height) (at (suc n)) ≡ true → Outcome budget
    turning : (n : ℕ) → n < budget → AirTo n → speed_negative (at (suc n)) ≡ true → Outcome budget

  one_more : (n : ℕ) → AirTo n → InTheAir height (at (suc n)) → AirTo (suc n)
  one_more n air next k l q =
      ⊎_elim (λ (e : k ≡ suc n). rw e next) (λ (r : k < suc n). air k l (le_of_suc-le-suc r)) (eq-or-lt_of_le q)

  pub outcome : (budget : ℕ) → Outcome budget
  outcome zero = lasting (λ k l q. absurd (omega arith))
  outcome (suc budget) = by_outcome (outcome budget)
    where
      by_tests : AirTo budget → (s t : Bool) → speed_negative (at (suc budget)) ≡ s → ground_reached (in_metres height) (at (suc budget)) ≡ t → Outcome (suc budget)
      by_tests air true t e g = turning budget (omega arith) air e
      by_tests air false true e g = landing budget (omega arith) air e g
      by_tests air false false e g = lasting (one_more budget air record { short = g; not_negative = e })

      by_outcome : Outcome budget → Outcome (suc budget)
      by_outcome (lasting air) = by_tests air (speed_negative (at (suc budget))) (ground_reached (in_metres height) (at (suc budget))) refl refl
      by_outcome (landing n h air e g) = landing n (omega arith) air e g
      by_outcome (turning n h air e) = turning n (omega arith) air e

  -- ---- the first state

  zero_forward : lt (whole 0) (whole 0) ≡ false
  zero_forward = rw zero_made (finite_not_below 0 (pos 0))

  pub first_in_the_air : 1 ≤ height → height ≤ height_max → v ≤ speed_max → InTheAir height (first_state v)
  first_in_the_air l h k =
      let height_is = division_nearest height 100 (le_trans h (lit≤ tt)) (lit< tt) (lit≤ tt) in
      let speed_is = division_nearest v 100 (le_trans k (lit≤ tt)) (lit< tt) (lit≤ tt) in
      record {
        short = rw height_is (beyond height 100 l (lit< tt) (le_refl _));
        not_negative = rw speed_is (simp (not_below v 100, zero_forward));
      }

  -- the first state and those in the air after it
  pub from_first : InTheAir height (first_state v) → (n : ℕ) → AirTo n → (k : ℕ) → k ≤ n → InTheAir height (at k)
  from_first first n air zero q = rw first_is first
  from_first first n air (suc k) q = air (suc k) (omega arith) q
