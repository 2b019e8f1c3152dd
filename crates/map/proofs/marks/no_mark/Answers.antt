use mathlib.Core.Path.{◌≡◌, refl, sym, ap, ◌∙◌}
use Prim.Native.Nat.{ℕ}
use native.Mathlib.Omega.{arith}
use lib.Bits.{bit_or}
use lib.Dec.{eqb}
use lib.ListN.{get_or}
use Rattle.arithmetic.proofs.OrLaws.{or_below, or_next, le_or}
use Rattle.map.specs.Size.{map_rows}
use Rattle.map.proofs.MarkLaws.{no_mark_is}
use Rattle.map.proofs.marks.no_mark.Goals as goal

pub loop-row-init : goal.loop-row-init
unfolding or_below
loop-row-init c = refl

pub loop-row-preserved : goal.loop-row-preserved
loop-row-preserved c =
    let row = λ (i : ℕ). get_or c.args.marks.now i 0 in
    ap (λ (x : ℕ). bit_or x (row c.loop-row.row-index)) c.loop-row.invariant ∙ sym (or_next row c.loop-row.row-index)

-- no row is larger than their bitwise or, which has 64 bits
pub returns : goal.returns
returns c =
    let row = λ (i : ℕ). get_or c.args.marks.now i 0 in
    let past : c.loop-row.row-index ≡ map_rows = omega arith in
    let all = c.loop-row.invariant ∙ ap (or_below row) past in
    ap (λ (x : ℕ). eqb x 0) all ∙ no_mark_is c.args.marks.now (λ r l. omega (arith, le_or row map_rows r l, all, c.loop-row.auto.all-fits))
