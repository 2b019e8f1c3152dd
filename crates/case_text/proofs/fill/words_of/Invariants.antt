use Rattle.arithmetic.specs.Lists.{tabulate}
use Rattle.arithmetic.proofs.PartLaws.{Filled}
use Rattle.case_text.proofs.CountLaws.{word_in}
use Rattle.case_text.proofs.fill.words_of.Given as goal

abbrev pub invariant-loop-i : goal.invariant-loop-i
invariant-loop-i l = Filled l.initial.word-items l.i (tabulate (word_in l.line) l.i) l.word-items
