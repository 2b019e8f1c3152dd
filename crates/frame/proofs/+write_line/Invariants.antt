use Rattle.std.proofs.Common.{length}
use Rattle.frame.proofs.+write_line.Given as goal

abbrev pub decreases-write_line : goal.decreases-write_line
decreases-write_line l = length l.fields.now
