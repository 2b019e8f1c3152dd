-- `mass_within` solves lines 2 to 4 for the mass.
use Rattle.arithmetic.specs.Rounding.{div_up}
use Rattle.sheet.specs.Lines.{run_of}
use Rattle.trade_off.proofs.SolvedLaws.{mass_solved}
use Rattle.trade_off.proofs.solved.mass_within.Goals as goal

pub returns : goal.returns
unfolding run_of div_up
returns c = rw (c.min.ensures, c.max.ensures, c.saturating_sub-saving.ensures) (mass_solved c.args.slide c.args.speed)
