use mathlib.Core.Path.{◌≡◌, refl, sym, ◌∙◌}
use Prim.Native.Nat.{◌-◌}
use native.Mathlib.Omega.{arith}
use Rattle.descent.proofs.FallLaws.{spent, settled_again, settled_on, settled_ground}
use Rattle.descent.proofs.Course.settled_fall.Goals as goal

pub loop-taken-init : goal.loop-taken-init
loop-taken-init c = (c.requires.1, refl)

pub returns-then-state-self : goal.returns-then-state-self
returns-then-state-self c =
    let self = c.args.self in
    let state = c.loop-taken.state in
    c.landed_after.ensures
    ∙ sym (c.loop-taken.invariant.1
    ∙ rw c.fallen_to.ensures (settled_ground self.body self.height state c.loop-taken.invariant.0 self.budget c.loop-taken.taken c.loop-taken-test.true (rw (sym c.fallen_to.ensures) c.if-state-self.true)))

pub loop-taken-preserved : goal.loop-taken-preserved
loop-taken-preserved c =
    let self = c.args.self in
    let state = c.loop-taken.state in
    rw c.fallen_to.ensures (
      settled_again self.body self.height state c.loop-taken.invariant.0,
      c.loop-taken.invariant.1 ∙ settled_on self.body self.height state c.loop-taken.invariant.0 self.budget c.loop-taken.taken c.loop-taken-test.true (rw (sym c.fallen_to.ensures) c.if-state-self.false),
    )

pub returns : goal.returns
returns c =
    let left : c.args.self.budget - c.loop-taken.taken ≡ 0 = omega arith in
    sym (c.loop-taken.invariant.1 ∙ rw left (spent c.args.self.body c.args.self.height c.loop-taken.taken c.loop-taken.state))
