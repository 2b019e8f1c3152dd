-- The limits grow, and lie ten times apart.
use mathlib.Core.Path.{◌≡◌, refl}
use Prim.Native.Nat.{ℕ, ◌+◌, ◌*◌, ◌≤◌, ◌<◌}
use native.Mathlib.Omega.{arith}
use lib.Dec.{eqb}
use borrow.Author.Tests.{eqb-true}
use Rattle.arithmetic.proofs.TestLaws.{all_below_lem}
use Rattle.columns.specs.Column.{column_count, limit_at}
use Rattle.columns.proofs.GrowingTable.{entries_grow}

pub limit_tenfold : (i : ℕ) → i + 1 < column_count → limit_at (i + 1) ≡ 10 * limit_at i
limit_tenfold i h =
    eqb-true _ _ (all_below_lem (λ (i : ℕ). eqb (limit_at (i + 1)) (10 * limit_at i)) 4 refl i (omega arith))

pub limit_mono : (i k : ℕ) → i ≤ k → k < column_count → limit_at i ≤ limit_at k
limit_mono = entries_grow limit_at 4 refl
