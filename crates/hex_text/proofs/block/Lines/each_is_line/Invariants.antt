use Rattle.std.proofs.Common.{◌≡◌}
use Rattle.hex_text.specs.Blocks.{each_is_line}
use Rattle.hex_text.proofs.block.Lines.each_is_line.Given as goal

abbrev pub invariant-loop-k : goal.invariant-loop-k
invariant-loop-k l = l.good ≡ each_is_line l.s l.self.start l.self.each l.k
