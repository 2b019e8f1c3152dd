use Rattle.std.proofs.Common.{◌≡◌, ℕ, List, ◌∙◌, ap, arith}
use Rattle.arithmetic.specs.Lists.{tabulate}
use Rattle.arithmetic.proofs.PartLaws.{rule_none, rule_next, filled_all}
use Rattle.case_text.specs.Layout.{map_columns}
use Rattle.case_text.proofs.CountLaws.{count_in, words_counts}
use Rattle.case_text.proofs.fill.fill_row.Goals as goal

pub loop-k-init : goal.loop-k-init
loop-k-init c = rule_none _ _

pub loop-k-preserved : goal.loop-k-preserved
loop-k-preserved c =
    rule_next (count_in c.words_of-words.result) c.loop-k.k c.number_of_words.result c.args.row.now c.loop-k.row (omega arith) c.loop-k.invariant c.number_of_words.ensures

pub returns : goal.returns
returns c =
    let past : c.loop-k.k ≡ map_columns = omega arith in
    filled_all (omega (arith, c.requires.1)) (rw past at c.loop-k.invariant)
    ∙ ap (λ (ws : List ℕ). tabulate (count_in ws) map_columns) c.words_of-words.ensures
    ∙ words_counts c.args.line.now (λ i. omega (arith, c.type_inv.line i))
