-- One turn of the fall: from n steps made of a budget to one more.
use mathlib.Core.Path.{◌≡◌, refl, sym, ap, ◌∙◌}
use mathlib.Core.Bool.{true, false, cond, not, ◌&&◌}
use Prim.Native.Nat.{ℕ, suc, ◌+◌, ◌-◌, ◌<◌}
use native.Mathlib.Numerals.{add-one}
use native.Mathlib.Omega.{arith}
use lib.Dec.{T}
use borrow.Author.Tests.{not-true}
use lib.Ieee.{Float, binary64, fits, eq, lt}
use lib.Ieee.Bits.{is_true}
use lib.Ieee.Fits.{add-fits, sub-fits}
use Rattle.std.proofs.lemmas.Float.{T_from_true, lt_trans}
use Rattle.arithmetic.proofs.TestLaws.{both}
use Rattle.fall.specs.Numbers.{whole}
use Rattle.fall.specs.TwoSteps.{leads_to}
use Rattle.fall.specs.Step.{speed_of, drag_per_speed, slowing, next_horizontal, next_downward, fallen_to, next_fallen, next_state}
use Rattle.descent.specs.Descent.{speed_negative, ground_reached, landed, refused_descent, fall_from}
use Rattle.fall.specs.declared.Fall.{Fall}
use Rattle.fall.specs.declared.Body.{Body}
use Rattle.descent.specs.PrivatePredicted.{Predicted, in_flight}
use Rattle.descent.specs.PrivateSettled.{Settled}
use Rattle.fall.proofs.FloatLaws.{same_above_zero, above_not_below}

module _ (b : Body) (h : Float) where
  one_step : (left n : ℕ) (s : Fall) → fall_from b h (suc left) n s
      ≡ cond (speed_negative (next_state b s)) (refused_descent 19)
      (cond (ground_reached h (next_state b s)) (landed (suc n) (next_state b s)) (fall_from b h left (suc n) (next_state b s)))
  unfolding fall_from
  one_step left n s = refl

  pub spent : (n : ℕ) (s : Fall) → fall_from b h 0 n s ≡ refused_descent 18
  unfolding fall_from
  spent n s = refl

  module _ (budget n : ℕ) (s : Fall) {t : Fall} (more : n < budget) (made : t ≡ next_state b s) where
    turned : fall_from b h (budget - n) n s
        ≡ cond (speed_negative t) (refused_descent 19) (cond (ground_reached h t) (landed (n + 1) t) (fall_from b h (budget - (n + 1)) (n + 1) t))
    turned =
        let left : budget - n ≡ suc (budget - (n + 1)) = omega arith in
        rw (left, made, add-one) (one_step (budget - suc n) n s)

    pub refused_19 : speed_negative t ≡ true → fall_from b h (budget - n) n s ≡ refused_descent 19
    refused_19 e = turned ∙ simp e

    pub ground : speed_negative t ≡ false → ground_reached h t ≡ true → fall_from b h (budget - n) n s ≡ landed (n + 1) t
    ground e g = turned ∙ simp (e, g)

    pub in_the_air : speed_negative t ≡ false → ground_reached h t ≡ false
        → fall_from b h (budget - n) n s ≡ fall_from b h (budget - (n + 1)) (n + 1) t
    in_the_air e g = turned ∙ simp (e, g)

-- ---- a state that a step makes, in flight
module _ (b : Body) (h : Float) (s t : Fall) (was_above : lt (whole 0) s.downward ≡ true) (flies : in_flight h s t ≡ true) where
  speeds : (lt (whole 0) t.horizontal ≡ true) × (lt s.downward t.downward ≡ true)
  speeds = both _ _ (both _ _ flies).0

  pub above : lt (whole 0) t.downward ≡ true
  above = is_true _ (lt_trans (whole 0) s.downward t.downward (T_from_true _ was_above) (T_from_true _ speeds.1))

  not_negative : speed_negative t ≡ false
  not_negative = simp (above_not_below t.horizontal speeds.0, above_not_below t.downward above)

  short : ground_reached h t ≡ false
  short = not-true _ (both (lt (whole 0) t.horizontal && lt s.downward t.downward) (not (ground_reached h t)) flies).1

  pub exact_on : t ≡ next_state b s → (budget n : ℕ) → n < budget → fall_from b h (budget - n) n s ≡ fall_from b h (budget - (n + 1)) (n + 1) t
  exact_on made budget n l = in_the_air b h budget n s l made not_negative short

  -- a predicted state whose speeds the step makes
  module _ (known : Predicted s t) (leads : leads_to b s t ≡ true) where
    same : (eq (next_horizontal b s) t.horizontal ≡ true) × (eq (next_downward b s) t.downward ≡ true)
    unfolding leads_to
    same = both _ _ leads

    exact_fits : T (fits binary64 (next_horizontal b s)) × T (fits binary64 (next_downward b s))
    unfolding next_horizontal next_downward
    exact_fits = (sub-fits binary64 _ _, add-fits binary64 _ _)

    confirmed : t ≡ next_state b s
    unfolding next_state next_fallen
    confirmed =
        let forward = sym (same_above_zero (next_horizontal b s) t.horizontal exact_fits.0 known.horizontal_fits same.0 speeds.0) in
        let down = sym (same_above_zero (next_downward b s) t.downward exact_fits.1 known.downward_fits same.1 above) in
        λ i. record { horizontal = forward i; downward = down i; fallen = (known.fallen_is ∙ ap (fallen_to s) down) i }

    pub predicted_on : (budget n : ℕ) → n < budget → fall_from b h (budget - n) n s ≡ fall_from b h (budget - (n + 1)) (n + 1) t
    predicted_on = exact_on confirmed

-- ---- a state whose speeds no longer change

module _ (b : Body) (s t : Fall) (forward : s.horizontal ≡ t.horizontal) (down : s.downward ≡ t.downward) where
  same_horizontal : next_horizontal b s ≡ next_horizontal b t
  unfolding next_horizontal slowing drag_per_speed speed_of
  same_horizontal = λ i. next_horizontal b (record { horizontal = forward i; downward = down i; fallen = s.fallen })

  same_downward : next_downward b s ≡ next_downward b t
  unfolding next_downward slowing drag_per_speed speed_of
  same_downward = λ i. next_downward b (record { horizontal = forward i; downward = down i; fallen = s.fallen })

  pub settles : t ≡ next_state b s → lt (whole 0) t.horizontal ≡ true → lt (whole 0) t.downward ≡ true → Settled b t
  unfolding next_state
  settles made p q =
      record {
        horizontal_above = p;
        downward_above = q;
        horizontal_stays = sym same_horizontal ∙ ap (λ (x : Fall). x.horizontal) (sym made);
        downward_stays = sym same_downward ∙ ap (λ (x : Fall). x.downward) (sym made);
      }

-- what a step makes of it
abbrev pub settled_next : Fall → Fall
settled_next s = record { horizontal = s.horizontal; downward = s.downward; fallen = fallen_to s s.downward }

module _ (b : Body) (h : Float) (s : Fall) (rests : Settled b s) where
  pub settled_made : settled_next s ≡ next_state b s
  unfolding next_state next_fallen
  settled_made =
      λ i. record { horizontal = sym rests.horizontal_stays i; downward = sym rests.downward_stays i; fallen = ap (fallen_to s) (sym rests.downward_stays) i }

  pub settled_again : Settled b (settled_next s)
  unfolding next_horizontal next_downward slowing drag_per_speed speed_of
  settled_again = record { horizontal_above = rests.horizontal_above; downward_above = rests.downward_above; horizontal_stays = rests.horizontal_stays; downward_stays = rests.downward_stays }

  settled_not_negative : speed_negative (settled_next s) ≡ false
  settled_not_negative = simp (above_not_below s.horizontal rests.horizontal_above, above_not_below s.downward rests.downward_above)

  module _ (budget n : ℕ) (more : n < budget) where
    pub settled_on : ground_reached h (settled_next s) ≡ false → fall_from b h (budget - n) n s ≡ fall_from b h (budget - (n + 1)) (n + 1) (settled_next s)
    settled_on = in_the_air b h budget n s more settled_made settled_not_negative

    pub settled_ground : ground_reached h (settled_next s) ≡ true → fall_from b h (budget - n) n s ≡ landed (n + 1) (settled_next s)
    settled_ground = ground b h budget n s more settled_made settled_not_negative
