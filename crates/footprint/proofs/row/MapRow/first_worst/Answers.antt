use mathlib.Core.Path.{sym, ◌∙◌}
use native.Mathlib.Omega.{arith}
use Rattle.arithmetic.proofs.SumLaws.{first_is, first_found}
use Rattle.map.specs.Size.{map_columns}
use Rattle.footprint.specs.PrivateWalk.{row_key}
use Rattle.footprint.proofs.row.MapRow.first_worst.Goals as goal

pub returns-then-key-worst : goal.returns-then-key-worst
returns-then-key-worst c =
    first_is (row_key c.args.self.counts.now c.args.self.bits) map_columns c.args.worst c.requires.0 c.requires.1 c.loop-column.column (omega arith) (sym c.key.ensures ∙ c.if-key-worst.true) c.loop-column.invariant

-- the loop can't end without an answer
pub returns : goal.returns
returns c =
    absurd (first_found (row_key c.args.self.counts.now c.args.self.bits) map_columns c.args.worst c.requires.0 c.requires.1 (λ k l. c.loop-column.invariant k (omega arith)) (omega arith))
