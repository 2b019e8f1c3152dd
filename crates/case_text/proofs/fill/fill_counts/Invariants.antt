use Rattle.hex_text.proofs.FillLaws.{FilledLines}
use Rattle.case_text.specs.Layout.{count_lines, counts_start}
use Rattle.case_text.proofs.fill.fill_counts.Given as goal

abbrev pub invariant-loop-r : goal.invariant-loop-r
invariant-loop-r l = FilledLines count_lines l.text counts_start l.r l.initial.counts l.counts
