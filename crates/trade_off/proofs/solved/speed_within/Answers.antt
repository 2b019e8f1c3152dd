-- `speed_within` solves lines 2 to 4 for the speed.
use Rattle.sheet.specs.Lines.{saving_of}
use Rattle.trade_off.proofs.SolvedLaws.{speed_solved}
use Rattle.trade_off.proofs.solved.speed_within.Goals as goal

pub returns : goal.returns
unfolding saving_of
returns c = speed_solved c.args.slide c.args.mass c.whole_root.result (rw c.min-run.ensures at c.whole_root.ensures.at_most) (rw c.min-run.ensures at c.whole_root.ensures.next)
