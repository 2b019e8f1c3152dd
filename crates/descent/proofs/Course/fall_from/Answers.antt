use mathlib.Core.Path.{◌≡◌, sym, ◌∙◌}
use Prim.Native.Nat.{◌+◌, ◌-◌, ◌≤◌, ◌<◌}
use native.Mathlib.Nat.{sub-zero}
use native.Mathlib.Omega.{arith}
use Rattle.arithmetic.proofs.TestLaws.{both}
use Rattle.fall.proofs.Literals.{zero_is}
use Rattle.descent.proofs.FallLaws.{spent, refused_19, ground, in_the_air, settles}
use Rattle.descent.proofs.Course.fall_from.Goals as goal

pub loop-at-init : goal.loop-at-init
loop-at-init c = (omega arith, simp sub-zero)

pub overflow_add-steps : goal.overflow_add-steps
overflow_add-steps c =
    let more : c.loop-at.at.steps < c.args.self.budget = c.loop-at-test.true in
    omega (arith, more)

pub returns-then-state : goal.returns-then-state
returns-then-state c =
    sym (c.loop-at.invariant.1
    ∙ refused_19 c.args.self.body c.args.self.height c.args.self.budget c.loop-at.at.steps c.loop-at.at.state c.loop-at-test.true c.step.ensures.0 (simp (sym zero_is) c.if-state.true))

pub returns-then-state-self : goal.returns-then-state-self
returns-then-state-self c =
    c.landed_after.ensures
    ∙ sym (c.loop-at.invariant.1
    ∙ ground c.args.self.body c.args.self.height c.args.self.budget c.loop-at.at.steps c.loop-at.at.state c.loop-at-test.true c.step.ensures.0 (simp (sym zero_is) c.if-state.false) c.if-state-self.true)

pub loop-at-smaller : goal.loop-at-smaller
loop-at-smaller c =
    let more : c.loop-at.at.steps < c.args.self.budget = c.loop-at-test.true in
    omega (arith, more, c.steps_ahead-at.ensures.0)

pub loop-at-preserved : goal.loop-at-preserved
loop-at-preserved c = (
  c.steps_ahead-at.ensures.1,
  c.loop-at.invariant.1
      ∙ in_the_air c.args.self.body c.args.self.height c.args.self.budget c.loop-at.at.steps c.loop-at.at.state c.loop-at-test.true c.step.ensures.0 (simp (sym zero_is) c.if-state.false) c.if-state-self.false
      ∙ c.steps_ahead-at.ensures.2,
)

pub returns : goal.returns
returns c =
    let left : c.args.self.budget - c.loop-at.at.steps ≡ 0 = omega arith in
    sym (c.loop-at.invariant.1 ∙ rw left (spent c.args.self.body c.args.self.height c.loop-at.at.steps c.loop-at.at.state))

pub settled_fall-requires : goal.settled_fall-requires
settled_fall-requires c =
    let more : c.loop-at.at.steps + 1 ≤ c.args.self.budget = omega (arith, c.loop-at-test.true) in
    let same = both _ _ c.if-same_above_zero.true in
    let forward = c.same_above_zero.ensures.same same.0 in
    let down = c.same_above_zero-in-loop-at.ensures.same same.1 in
    let forward_above = (both _ _ (sym c.same_above_zero.ensures.value ∙ same.0)).1 in
    let down_above = (both _ _ (sym c.same_above_zero-in-loop-at.ensures.value ∙ same.1)).1 in
    (more, settles c.args.self.body c.loop-at.at.state c.step.result.0 forward down c.step.ensures.0 forward_above down_above)

pub returns-then-same_above_zero : goal.returns-then-same_above_zero
returns-then-same_above_zero c =
    c.settled_fall.ensures
    ∙ sym (c.loop-at.invariant.1
    ∙ in_the_air c.args.self.body c.args.self.height c.args.self.budget c.loop-at.at.steps c.loop-at.at.state c.loop-at-test.true c.step.ensures.0 (simp (sym zero_is) c.if-state.false) c.if-state-self.false)
