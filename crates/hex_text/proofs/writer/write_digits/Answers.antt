use Rattle.std.proofs.Common.{◌≡◌, ◌∙◌, arith}
use Rattle.hex_text.specs.Digits.{digits}
use Rattle.hex_text.proofs.DigitLaws.{digits_more}
use Rattle.hex_text.proofs.writer.write_digits.Goals as goal

pub loop-i-preserved : goal.loop-i-preserved
loop-i-preserved c =
    digits_more c.loop-i.i c.loop-i.rest c.digit_of.result c.loop-i.part (omega arith) (omega arith) c.digit_of.ensures ∙ c.loop-i.invariant

pub returns : goal.returns
unfolding digits
returns c = let past : c.loop-i.i ≡ 0 = omega arith in rw past at c.loop-i.invariant
