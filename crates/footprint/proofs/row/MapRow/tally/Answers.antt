use mathlib.Core.Path.{◌≡◌, ap, ap₂, ◌∙◌}
use mathlib.Core.List.{List, [], ◌∷◌}
use Prim.Native.Nat.{ℕ, ◌≤◌}
use native.Mathlib.Omega.{arith}
use lib.ListN.{get_or}
use Rattle.arithmetic.specs.SumsAndMaxima.{sum_below, max_below}
use Rattle.footprint.specs.PrivateWalk.{joined}
use Rattle.footprint.specs.declared.row.Tally.{Tally}
use Rattle.footprint.proofs.RowLaws.{lane_of}
use Rattle.footprint.proofs.RowLaws as law
use Rattle.footprint.proofs.row.MapRow.tally.Goals as goal

abbrev none : Tally
none = record { people = 0; most = 0 }

-- the lane j of four
at : (j : ℕ) {lanes others : List Tally} → lanes ≡ others → get_or lanes j none ≡ get_or others j none
at j e = ap (λ (x : List Tally). get_or x j none) e

pub loop-k-init : goal.loop-k-init
unfolding sum_below max_below
loop-k-init c =
    let d = c.default-lanes.ensures in
    let lane : c.default-lanes.result ≡ none = λ i. record { people = d.0 i; most = d.1 i } in λ i. lane i ∷ lane i ∷ lane i ∷ lane i ∷ []

pub joined-requires : goal.joined-requires
joined-requires c =
    let self = c.args.self in
    law.cell_fits self.counts.now self.bits self.in_range 0 c.loop-k.k (omega arith) c.loop-k-test.true (at 0 c.loop-k.invariant) c.cell.ensures

pub joined-requires-in-loop-k : goal.joined-requires-in-loop-k
joined-requires-in-loop-k c =
    let self = c.args.self in
    law.cell_fits self.counts.now self.bits self.in_range 1 c.loop-k.k (omega arith) c.loop-k-test.true (at 1 c.loop-k.invariant) c.cell-in-loop-k.ensures

pub joined-requires-in-loop-k-2 : goal.joined-requires-in-loop-k-2
joined-requires-in-loop-k-2 c =
    let self = c.args.self in
    law.cell_fits self.counts.now self.bits self.in_range 2 c.loop-k.k (omega arith) c.loop-k-test.true (at 2 c.loop-k.invariant) c.cell-in-loop-k-2.ensures

pub joined-requires-in-loop-k-3 : goal.joined-requires-in-loop-k-3
joined-requires-in-loop-k-3 c =
    let self = c.args.self in
    law.cell_fits self.counts.now self.bits self.in_range 3 c.loop-k.k (omega arith) c.loop-k-test.true (at 3 c.loop-k.invariant) c.cell-in-loop-k-3.ensures

pub loop-k-preserved : goal.loop-k-preserved
loop-k-preserved c =
    let self = c.args.self in
    let k = c.loop-k.k in
    let e = c.loop-k.invariant in
    let next = law.lane_next self.counts.now self.bits in
    let l0 = c.joined.ensures ∙ ap₂ joined (at 0 e) c.cell.ensures ∙ next 0 k in
    let l1 = c.joined-in-loop-k.ensures ∙ ap₂ joined (at 1 e) c.cell-in-loop-k.ensures ∙ next 1 k in
    let l2 = c.joined-in-loop-k-2.ensures ∙ ap₂ joined (at 2 e) c.cell-in-loop-k-2.ensures ∙ next 2 k in
    let l3 = c.joined-in-loop-k-3.ensures ∙ ap₂ joined (at 3 e) c.cell-in-loop-k-3.ensures ∙ next 3 k in λ i. l0 i ∷ l1 i ∷ l2 i ∷ l3 i ∷ []

-- ---- the loop's end

module _ (counts : List ℕ) (bits : ℕ) {k : ℕ} {lanes : List Tally} (past : 16 ≤ k) (end : k ≤ 16)
    (e : lanes ≡ lane_of counts bits 0 k ∷ lane_of counts bits 1 k ∷ lane_of counts bits 2 k ∷ lane_of counts bits 3 k ∷ []) where
  all_steps : lanes ≡ lane_of counts bits 0 16 ∷ lane_of counts bits 1 16 ∷ lane_of counts bits 2 16 ∷ lane_of counts bits 3 16 ∷ []
  all_steps =
      let k_is : k ≡ 16 = omega arith in
      e ∙ ap (λ (n : ℕ). lane_of counts bits 0 n ∷ lane_of counts bits 1 n ∷ lane_of counts bits 2 n ∷ lane_of counts bits 3 n ∷ []) k_is

pub joined-requires-2 : goal.joined-requires-2
joined-requires-2 c =
    let self = c.args.self in
    let e = all_steps self.counts.now self.bits c.loop-k-test.false c.loop-k.auto.k-end c.loop-k.invariant in
    omega (arith, law.people_le self.counts.now self.bits self.in_range 0 (omega arith) (at 0 e), law.people_le self.counts.now self.bits self.in_range 1 (omega arith) (at 1 e))

pub joined-requires-3 : goal.joined-requires-3
joined-requires-3 c =
    let self = c.args.self in
    let e = all_steps self.counts.now self.bits c.loop-k-test.false c.loop-k.auto.k-end c.loop-k.invariant in
    omega (arith, ap (λ (x : Tally). x.people) c.joined-2.ensures, law.people_le self.counts.now self.bits self.in_range 0 (omega arith) (at 0 e), law.people_le self.counts.now self.bits self.in_range 1 (omega arith) (at 1 e), law.people_le self.counts.now self.bits self.in_range 2 (omega arith) (at 2 e))

pub joined-requires-4 : goal.joined-requires-4
joined-requires-4 c =
    let self = c.args.self in
    let e = all_steps self.counts.now self.bits c.loop-k-test.false c.loop-k.auto.k-end c.loop-k.invariant in
    omega (arith, ap (λ (x : Tally). x.people) c.joined-3.ensures, ap (λ (x : Tally). x.people) c.joined-2.ensures, law.people_le self.counts.now self.bits self.in_range 0 (omega arith) (at 0 e), law.people_le self.counts.now self.bits self.in_range 1 (omega arith) (at 1 e), law.people_le self.counts.now self.bits self.in_range 2 (omega arith) (at 2 e), law.people_le self.counts.now self.bits self.in_range 3 (omega arith) (at 3 e))

pub returns : goal.returns
returns c =
    let self = c.args.self in
    let e = all_steps self.counts.now self.bits c.loop-k-test.false c.loop-k.auto.k-end c.loop-k.invariant in
    let two = c.joined-2.ensures ∙ ap₂ joined (at 0 e) (at 1 e) in
    let three = c.joined-3.ensures ∙ ap₂ joined two (at 2 e) in
    c.joined-4.ensures ∙ ap₂ joined three (at 3 e) ∙ law.lanes_all self.counts.now self.bits
