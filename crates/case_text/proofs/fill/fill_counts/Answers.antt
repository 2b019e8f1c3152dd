use Rattle.std.proofs.Common.{◌≡◌, arith}
use Rattle.hex_text.proofs.FillLaws.{lines_none, lines_next, lines_all}
use Rattle.case_text.specs.Layout.{count_lines, counts_start, map_rows}
use Rattle.case_text.proofs.fill.fill_counts.Goals as goal

pub loop-r-init : goal.loop-r-init
loop-r-init c = lines_none count_lines _ _ _

pub loop-r-preserved : goal.loop-r-preserved
loop-r-preserved c =
    lines_next count_lines c.args.text.now counts_start c.args.counts.now c.loop-r.r c.loop-r.counts c.fill_row.new.row (omega arith) c.loop-r.invariant c.fill_row.ensures

pub returns : goal.returns
returns c =
    let past : c.loop-r.r ≡ map_rows = omega arith in
    lines_all count_lines c.args.text.now counts_start c.args.counts.now (omega arith) c.loop-r.counts (rw past at c.loop-r.invariant)
