use Rattle.hex_text.proofs.FillLaws.{FilledLines}
use Rattle.case_text.specs.Layout.{mark_lines, marks_start}
use Rattle.case_text.proofs.fill.fill_marks.Given as goal

abbrev pub invariant-loop-k : goal.invariant-loop-k
invariant-loop-k l = FilledLines mark_lines l.text marks_start l.k l.initial.marks l.marks
