use mathlib.Core.Path.{◌≡◌, refl}
use native.Mathlib.Omega.{arith}
use Rattle.columns.proofs.ColumnFromFirst.{flagged_to, by_all_limits, limit_passed, limit_met, no_limit}
use Rattle.columns.proofs.column_and_flag.Goals as goal

pub loop-k-init : goal.loop-k-init
unfolding flagged_to
loop-k-init c = (omega arith, by_all_limits c.args.area, refl)

pub returns-then-area-limit : goal.returns-then-area-limit
returns-then-area-limit c =
    limit_met c.args.area c.loop-k.k (omega arith) c.loop-k.invariant.1 c.loop-k.invariant.2 (omega arith)

pub loop-k-preserved : goal.loop-k-preserved
loop-k-preserved c =
    let next = limit_passed c.args.area c.loop-k.k (omega arith) c.loop-k.invariant.1 (omega arith) in
    (omega arith, next.0, next.1)

pub returns : goal.returns
returns c =
    let past : c.loop-k.k ≡ 5 = omega arith in
    no_limit c.args.area (rw past at c.loop-k.invariant.1)
