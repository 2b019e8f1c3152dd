-- What two steps side by side make, and what they tell.
use mathlib.Core.Path.{◌≡◌, refl, sym, ap, ◌∙◌}
use mathlib.Core.Bool.{Bool, true, false, cond, ◌&&◌}
use lib.Ieee.{eq}
use Rattle.std.specs.Prelude.{Option, Some, None}
use Rattle.fall.specs.Step.{squares, first_guess, next_horizontal, next_downward, next_fallen, fallen_to, next_state}
use Rattle.fall.specs.TwoSteps.{leads_to, in_range, two_steps_of}
use Rattle.fall.specs.declared.Body.{Body}
use Rattle.fall.specs.declared.Fall.{Fall}

pub state_made : (b : Body) (s : Fall)
    → ◌≡◌ {A = Fall} (record { horizontal = next_horizontal b s; downward = next_downward b s; fallen = fallen_to s (next_downward b s) }) (next_state b s)
unfolding next_state next_fallen
state_made b s = refl

pub both_lead : (b : Body) (s t u : Fall)
    → ((eq (next_horizontal b s) t.horizontal && eq (next_downward b s) t.downward) && (eq (next_horizontal b t) u.horizontal && eq (next_downward b t) u.downward)) ≡ (leads_to b s t && leads_to b t u)
unfolding leads_to
both_lead b s t u = refl

-- ---- what they tell

abbrev given : Option (Fall × Bool) → Fall × Bool → Fall × Bool
given None x = x
given (Some y) x = y

module _ (b : Body) (s t u : Fall) {exact : Fall} {lead : Bool} (told : two_steps_of b s t u ≡ Some (exact, lead)) where
  abbrev made : Fall × Bool
  made = (next_state b s, leads_to b s t && leads_to b t u)

  either : (test : Bool) → given (cond test (Some made) None) made ≡ made
  either true = refl
  either false = refl

  is_made : (exact, lead) ≡ made
  unfolding two_steps_of
  is_made = sym (ap (λ (o : Option (Fall × Bool)). given o made) told) ∙ either (in_range (squares s) (first_guess s) && in_range (squares t) (first_guess t))

  pub told_state : exact ≡ next_state b s
  told_state = ap (λ (p : Fall × Bool). p.0) is_made

  pub told_lead : lead ≡ (leads_to b s t && leads_to b t u)
  told_lead = ap (λ (p : Fall × Bool). p.1) is_made
