use Rattle.arithmetic.specs.Lists.{tabulate}
use Rattle.arithmetic.proofs.PartLaws.{Filled}
use Rattle.case_text.proofs.CountLaws.{count_in}
use Rattle.case_text.proofs.fill.fill_row.Given as goal

abbrev pub invariant-loop-k : goal.invariant-loop-k
invariant-loop-k l = Filled l.initial.row l.k (tabulate (count_in l.words) l.k) l.row
