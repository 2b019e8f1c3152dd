use Rattle.std.proofs.Common.{◌≡◌, arith}
use Rattle.hex_text.proofs.FillLaws.{lines_none, field_next, lines_all}
use Rattle.case_text.specs.Layout.{mark_width, mark_lines, marks_start, map_rows}
use Rattle.case_text.proofs.fill.fill_marks.Goals as goal

pub loop-k-init : goal.loop-k-init
loop-k-init c = lines_none mark_lines _ _ _

pub loop-k-preserved : goal.loop-k-preserved
loop-k-preserved c =
    field_next map_rows mark_width c.args.text.now marks_start c.args.marks.now c.loop-k.k c.mark_at.result c.loop-k.marks (omega arith) c.loop-k.invariant c.mark_at.ensures

pub returns : goal.returns
returns c =
    let past : c.loop-k.k ≡ map_rows = omega arith in
    lines_all mark_lines c.args.text.now marks_start c.args.marks.now (omega arith) c.loop-k.marks (rw past at c.loop-k.invariant)
