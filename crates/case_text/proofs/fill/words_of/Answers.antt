use Rattle.std.proofs.Common.{ℕ, ◌<◌, length, replicate, arith}
use lib.ListN.{length-replicate}
use Rattle.arithmetic.proofs.PartLaws.{rule_none, rule_next}
use Rattle.case_text.proofs.CountLaws.{word_in}
use Rattle.case_text.proofs.fill.words_of.Goals as goal

pub loop-i-init : goal.loop-i-init
loop-i-init c = rule_none _ _

pub loop-i-preserved : goal.loop-i-preserved
loop-i-preserved c =
    let inside : c.loop-i.i < length {A = ℕ} (replicate 128 0) = omega (arith, length-replicate {A = ℕ} 128 0) in
    rule_next (word_in c.args.line.now) c.loop-i.i c.word_at.result (replicate {A = ℕ} 128 0) c.loop-i.word-items inside c.loop-i.invariant c.word_at.ensures
