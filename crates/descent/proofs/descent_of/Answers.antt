use mathlib.Core.Path.{◌≡◌, refl, ◌∙◌}
use Prim.Native.Nat.{ℕ}
use lib.Ieee.{Float}
use mathlib.Core.Bool.{cond}
use lib.Dec.{eqb}
use Rattle.refusal.specs.Refusals.{first_refusal}
use Rattle.refusal.proofs.NumberLaws.{passed_on, number_nonzero}
use Rattle.refusal.proofs.RefusalLaws.{FollowsFrom, refused_before, way_out_after}
use Rattle.frontal_area.specs.FrontalArea.{multirotor_tests}
use Rattle.fall.specs.Numbers.{divided_by, in_metres}
use Rattle.descent.specs.Descent.{body_of, first_state, refused_descent, landed_answer, fall_from, fall_of, fall_tests, descent_of}
use Rattle.fall.specs.declared.Fall.{Fall}
use Rattle.fall.specs.declared.Body.{Body}
use Rattle.fall.proofs.Literals.{hundred_is}
use Rattle.descent.proofs.descent_of.Goals as goal

-- `descent_of` gives the answer of the fall, or the first refusal of the inputs.

-- the fall of the parts that the code makes
fall_made : (w m v height budget : ℕ) {b : Body} {h : Float} {s : Fall} → b ≡ body_of w m → h ≡ in_metres height → s ≡ first_state v
    → fall_from b h budget 0 s ≡ fall_of w m v height budget
unfolding fall_of
fall_made w m v height budget e f g = rw (e, f, g) refl

-- the answer after the tests of a multirotor, none of which holds
module _ (w m v height budget : ℕ) (none : 0 ≡ first_refusal (multirotor_tests w m v)) where
  way_out : (k : ℕ) → FollowsFrom (fall_tests height budget) k (cond (eqb k 0) (fall_of w m v height budget) (refused_descent k) ≡ descent_of w m v height budget)
  unfolding descent_of
  way_out = way_out_after (fall_of w m v height budget) refused_descent (multirotor_tests w m v) (fall_tests height budget) refl none refl refl

pub returns-in_err-check_multirotor : goal.returns-in_err-check_multirotor
unfolding descent_of
returns-in_err-check_multirotor c =
    let a = c.args.aircraft in
    passed_on landed_answer refused_descent _ _ c.from_residual.ensures.1
    ∙ refused_before (fall_of a.dimension a.mass a.speed c.args.height c.args.budget) refused_descent (multirotor_tests a.dimension a.mass a.speed) (fall_tests c.args.height c.args.budget) refl c.in_err-check_multirotor.ensures (number_nonzero _)

pub returns-then-height-budget : goal.returns-then-height-budget
returns-then-height-budget c =
    let a = c.args.aircraft in
    way_out a.dimension a.mass a.speed c.args.height c.args.budget c.in_ok-check_multirotor.ensures 17 c.if-height-budget.true

pub returns : goal.returns
unfolding divided_by
returns c =
    let a = c.args.aircraft in
    c.fall_from.ensures
    ∙ fall_made a.dimension a.mass a.speed c.args.height c.args.budget c.body.ensures (simp hundred_is) c.first_state.ensures
    ∙ way_out a.dimension a.mass a.speed c.args.height c.args.budget c.in_ok-check_multirotor.ensures 0 c.if-height-budget.false
