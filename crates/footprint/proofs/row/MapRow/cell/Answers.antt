use mathlib.Core.Path.{refl, ap, ◌∙◌}
use Prim.Native.Nat.{ℕ, ◌+◌, ◌-◌, ◌*◌, ◌/◌, ◌%◌, ◌^◌}
use native.Mathlib.Omega.{arith}
use lib.Bits.{bit_and}
use Rattle.map.specs.Map.{count_at, bit_at}
use Rattle.footprint.specs.declared.masks.TheConstants.{MASKS}
use Rattle.footprint.proofs.CellLaws.{four_bit, masks_are, masked}
use Rattle.footprint.proofs.row.MapRow.cell.Goals as goal

-- `MapRow::cell` meets its contract.

pub returns : goal.returns
returns c =
    let self = c.args.self in
    let place = 4 * c.args.k + c.args.j in
    let four = self.bits / 2 ^ (60 - 4 * c.args.k) % 16 in
    let count = count_at self.counts.now place in
    let mask = masks_are MASKS refl four c.args.j (omega arith) c.requires.1 in
    let is = ap (bit_and count) (mask ∙ ap (λ (x : ℕ). x * (2 ^ 32 - 1)) (four_bit self.bits c.args.k c.args.j c.requires.0 c.requires.1))
    ∙ masked (bit_at self.bits place) count (omega arith) (omega (arith, self.in_range place)) in
    λ i. record { people = is i; most = is i }
