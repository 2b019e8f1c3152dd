use mathlib.Core.Path.{◌≡◌, refl, sym, ap, ap₂, ◌∙◌}
use mathlib.Core.Bool.{Bool, ◌||◌, ◌&&◌}
use mathlib.Core.List.{[]}
use Prim.Native.Nat.{ℕ, ◌+◌, ◌-◌}
use native.Mathlib.Omega.{arith}
use lib.Dec.{ltb, eqb}
use lib.ListN.{get_or}
use Rattle.arithmetic.specs.Conditions.{any_below}
use Rattle.arithmetic.proofs.TestLaws.{any_next}
use Rattle.risk_class.specs.ClassTable.{class_table, class_at}
use Rattle.risk_class.proofs.class_table.Column.has_entry.Goals as goal

pub loop-row-init : goal.loop-row-init
unfolding any_below
loop-row-init c = refl

pub loop-row-preserved : goal.loop-row-preserved
unfolding class_at
loop-row-preserved c =
    let column = c.args.self.number in
    let i = c.loop-row.row-index in
    let same : i + 1 - 1 ≡ i = omega arith in
    let entry = ap (λ (r : ℕ). get_or (get_or class_table r []) (column - 1) 0) (sym same) in
    ap₂ (λ (f : Bool) (e : ℕ). f || eqb e c.args.class) c.loop-row.invariant entry ∙ any_next (λ k. eqb (class_at (k + 1) column) c.args.class) i

pub returns : goal.returns
returns c =
    let past : c.loop-row.row-index ≡ 7 = omega arith in
    ap (λ (t : Bool). ltb 0 c.args.class && t) (c.loop-row.invariant ∙ ap (any_below (λ i. eqb (class_at (i + 1) c.args.self.number) c.args.class)) past)
