-- `MapRow::first_worst` meets its contract. The loop's invariant: no column passed has the largest key.
use mathlib.Core.Path.{◌≡◌}
use Prim.Native.Nat.{ℕ, ◌<◌}
use Rattle.footprint.specs.PrivateWalk.{row_key}
use Rattle.footprint.proofs.row.MapRow.first_worst.Given as goal

abbrev pub invariant-loop-column : goal.invariant-loop-column
invariant-loop-column l = (k : ℕ) → k < l.column → row_key l.self.counts.now l.self.bits k ≡ l.worst → ⊥
