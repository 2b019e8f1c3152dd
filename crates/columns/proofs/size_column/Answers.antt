use native.Mathlib.Omega.{arith}
use Rattle.columns.proofs.SizePairsWalked.{none_walked, pair_large_enough, pair_too_small, all_walked, none_found, one_found}
use Rattle.columns.proofs.size_column.Goals as goal

pub loop-k-init : goal.loop-k-init
loop-k-init c = (cc, rw (c.into_iter-k-iterator.ensures.into_iter_gives, c.rev-k-items.ensures.source, c.enumerate.ensures.source, c.iter.ensures.rest) (none_walked _ _))

pub loop-k-preserved-then-dimension-pair : goal.loop-k-preserved-then-dimension-pair
loop-k-preserved-then-dimension-pair c =
    let step = c.in-Some.ensures.steps in
    (omega (arith, c.loop-k.invariant.0), pair_large_enough _ _ _ _ step.1.0 c.loop-k.invariant.1 (omega (arith, c.loop-k.invariant.0)) c.if-dimension-pair.true)

pub loop-k-preserved : goal.loop-k-preserved
loop-k-preserved c =
    let step = c.in-Some.ensures.steps in
    (omega (arith, c.loop-k.invariant.0), pair_too_small _ _ _ _ step.1.0 c.loop-k.invariant.1 c.if-dimension-pair.false)

pub returns-then-column-eq0 : goal.returns-then-column-eq0
returns-then-column-eq0 c =
    let step = c.in-None.ensures.steps in
    none_found (c.if-column-eq0.true) (all_walked c.args.dimension c.args.speed _ step.1.0 c.loop-k.invariant.1)

pub returns : goal.returns
returns c =
    let step = c.in-None.ensures.steps in
    one_found (c.if-column-eq0.false) (all_walked c.args.dimension c.args.speed _ step.1.0 c.loop-k.invariant.1)
