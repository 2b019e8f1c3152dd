use mathlib.Core.Path.{sym, ap, ◌∙◌}
use Prim.Native.Nat.{◌+◌, ◌^◌, ◌<◌}
use native.Mathlib.Omega.{arith}
use Rattle.footprint.specs.PrivateWalk.{row_walk}
use Rattle.footprint.specs.declared.row.Tally.{Tally}
use Rattle.map.proofs.MarkLaws.{ones_of_row}
use Rattle.footprint.proofs.RowLaws as law
use Rattle.footprint.proofs.row.MapRow.walk.Goals as goal

-- `MapRow::walk` meets its contract.

pub returns-then-self-eq0 : goal.returns-then-self-eq0
returns-then-self-eq0 c =
    let counts = c.args.self.counts.now in
    let d = c.default.ensures in
    (λ i. record { worst = d.0 i; people = d.1.0 i; cells = d.1.1 i }) ∙ law.row_empty counts ∙ ap (row_walk counts) (sym c.if-self-eq0.true)

pub overflow_add-result : goal.overflow_add-result
overflow_add-result c =
    let self = c.args.self in
    omega (arith, ap (λ (x : Tally). x.most) c.tally-tally.ensures, law.most_le self.counts.now self.bits self.in_range)

pub returns : goal.returns
returns c =
    let self = c.args.self in
    let small : self.bits < 2 ^ 64 = omega arith in
    let t = ap (λ (x : Tally). x.most + 1) c.tally-tally.ensures ∙ sym (law.key_pos self.counts.now self.bits small c.if-self-eq0.false) in
    let p = ap (λ (x : Tally). x.people) c.tally-tally.ensures in
    let k = ones_of_row self.bits small in λ i. record { worst = t i; people = p i; cells = k i }
