use mathlib.Core.Path.{◌≡◌, sym, ap₂, ◌∙◌}
use Prim.Native.Nat.{ℕ, ◌*◌, ◌^◌, ◌≤◌}
use native.Mathlib.Omega.{arith}
use Rattle.columns.specs.Bracket.{bracket}
use Rattle.columns.specs.declared.Bracket.{Bracket}
use Rattle.high_angle.specs.SafetyFactor.{largest, smallest, root_from, root_to, factor_above, root_scale, low_factor, high_factor}
use Rattle.high_angle.specs.HighAngle.{factor_of}
use Rattle.high_angle.proofs.RootLaws.{largest_low}
use Rattle.high_angle.proofs.FactorLaws.{factor_between}
use Rattle.high_angle.proofs.factor.roots.Goals as goal

-- `roots` gives the two factors between the two numbers of joules.

between : (joules : Bracket) {low high : ℕ} → root_from ≤ joules.low → joules.low ≤ root_to → root_from ≤ joules.high → joules.high ≤ root_to →
    low ≡ largest factor_above (root_scale * joules.low) → high ≡ smallest factor_above (root_scale * joules.high) → bracket low high ≡ factor_of joules
unfolding factor_of low_factor high_factor
between joules a b c d e f =
    ap₂ bracket (e ∙ sym (factor_between (largest factor_above) joules.low a b)) (f ∙ sym (factor_between (smallest factor_above) joules.high c d))

reached : (x : ℕ) {low below : ℕ} → low ≡ largest factor_above x → below ≡ low ^ 5 → below ≤ x
reached x e p = rw (p, e) (largest_low x factor_above)

pub smallest_at_least-high-requires : goal.smallest_at_least-high-requires
smallest_at_least-high-requires c =
    (omega (arith, reached _ c.largest_at_most-root.ensures c.largest_at_most-root.result.is_below), omega arith)

pub returns : goal.returns
returns c =
    between c.args.joules (omega arith) (omega arith) (omega arith) (omega arith) c.largest_at_most-root.ensures c.smallest_at_least-high.ensures
