use Rattle.std.proofs.Common.{ap, ◌∙◌, arith}
use Rattle.hex_text.specs.PrivateWords.{number_of_word}
use Rattle.hex_text.proofs.WordLaws.{word_number}
use Rattle.hex_text.proofs.numbers.number_of_four.Goals as goal

pub returns : goal.returns
returns c =
    c.number_of_word.ensures ∙ ap number_of_word c.word.ensures
    ∙ word_number c.args.s.now 0 (λ i. omega (arith, c.type_inv.s i))
