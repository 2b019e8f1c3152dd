use Rattle.std.proofs.Common.{drop, arith}
use Rattle.hex_text.proofs.DigitLaws.{number_below, number_split}
use Rattle.hex_text.proofs.numbers.number_of_two.Goals as goal

pub returns : goal.returns
returns c =
    omega (arith, c.number_of_four.ensures, number_split 2 2 0 c.args.s.now, number_below 2 (drop 2 c.args.s.now))
