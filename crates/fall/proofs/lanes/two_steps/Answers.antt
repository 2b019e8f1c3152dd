use mathlib.Core.Path.{◌≡◌, sym, ◌∙◌}
use mathlib.Core.Bool.{Bool, cond, ◌&&◌}
use lib.Ieee.{Float, eq}
use Rattle.std.specs.Prelude.{Some, None}
use lib.Ieee.Fits.{add-fits}
use Rattle.arithmetic.proofs.TestLaws.{both}
use Rattle.fall.specs.Step.{squares, first_guess, next_horizontal, next_downward, next_state}
use Rattle.fall.specs.TwoSteps.{leads_to, in_range, two_steps_of}
use Rattle.fall.specs.declared.Body.{Body}
use Rattle.fall.specs.declared.Fall.{Fall}
use Rattle.fall.proofs.LaneLaws.{two_tests_hold}
use Rattle.fall.proofs.StepLaws.{state_made, both_lead}
use Rattle.fall.proofs.TwiceGuess.{speed_found}
use Rattle.fall.proofs.lanes.two_steps.Goals as goal

-- `two_steps` steps from both states side by side, where rounds may keep twice their guess, or from each by itself.

beside : (b : Body) (s t u : Fall) {test : Bool} → (in_range (squares s) (first_guess s) && in_range (squares t) (first_guess t)) ≡ test
    → two_steps_of b s t u ≡ cond test (Some (next_state b s, leads_to b s t && leads_to b t u)) None
unfolding two_steps_of
beside b s t u e = simp e

test : (s t : Fall) {a x b y : Float} {result : Bool} → a ≡ squares s → x ≡ first_guess s → b ≡ squares t → y ≡ first_guess t → (in_range a x && in_range b y) ≡ result
    → (in_range (squares s) (first_guess s) && in_range (squares t) (first_guess t)) ≡ result
test s t a x b y made = rw (sym a, sym x, sym b, sym y) made

pub six_rounds-requires : goal.six_rounds-requires
six_rounds-requires c =
    let range = both _ _ (sym c.in_range.ensures ∙ c.if-not-in_range.false) in (
      record { sum_fits = rw c.squares.ensures (add-fits _ _ _); range = range.0 },
      record { sum_fits = rw c.squares-2.ensures (add-fits _ _ _); range = range.1 },
    )

pub next_speeds-requires : goal.next_speeds-requires
next_speeds-requires c =
    let range = both _ _ (sym c.in_range.ensures ∙ c.if-not-in_range.false) in (
      speed_found c.args.s c.squares.ensures c.first_guess.ensures range.0 c.six_rounds.ensures.0,
      speed_found c.args.t c.squares-2.ensures c.first_guess-2.ensures range.1 c.six_rounds.ensures.1,
    )

pub returns-then-not-in_range : goal.returns-then-not-in_range
returns-then-not-in_range c =
    sym (beside c.args.b c.args.s c.args.t c.args.u (test c.args.s c.args.t c.squares.ensures c.first_guess.ensures c.squares-2.ensures c.first_guess-2.ensures (sym c.in_range.ensures ∙ c.if-not-in_range.true)))

pub returns : goal.returns
returns c =
    let b = c.args.b in
    let s = c.args.s in
    let t = c.args.t in
    let u = c.args.u in
    let both_range = test s t c.squares.ensures c.first_guess.ensures c.squares-2.ensures c.first_guess-2.ensures (sym c.in_range.ensures ∙ c.if-not-in_range.false) in
    let lead = two_tests_hold (eq (next_horizontal b s) t.horizontal) (eq (next_downward b s) t.downward) (eq (next_horizontal b t) u.horizontal) (eq (next_downward b t) u.downward) ∙ both_lead b s t u in
    rw (c.fallen_to.ensures, c.next_speeds.ensures.0, c.next_speeds.ensures.1) ((λ i. Some (state_made b s i, lead i)) ∙ sym (beside b s t u both_range))
