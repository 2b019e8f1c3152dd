use mathlib.Core.Path.{refl, sym, ap, ◌∙◌}
use Prim.Native.Nat.{ℕ, ◌+◌, ◌-◌, ◌<◌}
use native.Mathlib.Nat.{le_refl}
use native.Mathlib.Omega.{arith}
use Rattle.arithmetic.proofs.TestLaws.{both}
use Rattle.descent.specs.Descent.{fall_from}
use Rattle.fall.proofs.StepLaws.{told_state, told_lead}
use Rattle.descent.proofs.FallLaws.{above, exact_on, predicted_on}
use Rattle.descent.proofs.Course.confirmed_steps.Goals as goal

pub loop-at-init : goal.loop-at-init
loop-at-init c = ((le_refl _, c.requires.0, refl), c.requires.1)

pub overflow_sub-self : goal.overflow_sub-self
overflow_sub-self c = c.loop-at.invariant.0.1

pub returns-then-not-in_flight : goal.returns-then-not-in_flight
returns-then-not-in_flight c = c.loop-at.invariant.0

pub returns-in_default : goal.returns-in_default
returns-in_default c = c.loop-at.invariant.0

pub returns-else-in_flight : goal.returns-else-in_flight
returns-else-in_flight c = c.loop-at.invariant.0

pub loop-at-preserved-then-both_lead : goal.loop-at-preserved-then-both_lead
loop-at-preserved-then-both_lead c =
    let self = c.args.self in
    let at = c.loop-at.at in
    let flying = both _ _ c.if-not-in_flight.false in
    let first_flies = sym c.in_flight.ensures ∙ flying.0 in
    let second_flies = sym c.in_flight-in-loop-at.ensures ∙ flying.1 in
    let told = sym c.two_steps.ensures ∙ c.in-Some.is in
    let leads = both _ _ (sym (told_lead self.body at.state c.predicted-one.result c.predicted-two.result told) ∙ c.if-both_lead.true) in
    let more : 1 < self.budget - at.steps = c.loop-at-test.true in
    let first_above = above self.body self.height at.state c.predicted-one.result c.loop-at.invariant.1 first_flies in
    let one = predicted_on self.body self.height at.state c.predicted-one.result c.loop-at.invariant.1 first_flies c.predicted-one.ensures leads.0 self.budget at.steps (omega (arith, more)) in
    let two = predicted_on self.body self.height c.predicted-one.result c.predicted-two.result first_above second_flies c.predicted-two.ensures leads.1 self.budget (at.steps + 1) (omega (arith, more)) in (
      (
        omega (arith, c.loop-at.invariant.0.0),
        omega (arith, more),
        c.loop-at.invariant.0.2 ∙ one ∙ two ∙ ap (λ (n : ℕ). fall_from self.body self.height (self.budget - n) n c.predicted-two.result) (omega arith),
      ),
      above self.body self.height c.predicted-one.result c.predicted-two.result first_above second_flies,
    )

pub loop-at-preserved : goal.loop-at-preserved
loop-at-preserved c =
    let self = c.args.self in
    let at = c.loop-at.at in
    let flies = sym c.in_flight-else-both_lead.ensures ∙ c.if-in_flight.true in
    let told = sym c.two_steps.ensures ∙ c.in-Some.is in
    let exact = c.in-Some.exact in
    let more : 1 < self.budget - at.steps = c.loop-at-test.true in
    let one = exact_on self.body self.height at.state exact c.loop-at.invariant.1 flies (told_state self.body at.state c.predicted-one.result c.predicted-two.result told) self.budget at.steps (omega (arith, more)) in
    ((omega (arith, c.loop-at.invariant.0.0), omega (arith, more), c.loop-at.invariant.0.2 ∙ one), above self.body self.height at.state exact c.loop-at.invariant.1 flies)

pub returns : goal.returns
returns c = c.loop-at.invariant.0
