use Rattle.std.proofs.Common.{ap, ◌∙◌, arith}
use Rattle.hex_text.specs.PrivateWords.{pairs_of}
use Rattle.hex_text.proofs.WordLaws.{word_steps}
use Rattle.hex_text.proofs.words.number_of_word.Goals as goal

pub returns : goal.returns
returns c =
    let steps = c.pairs-p.ensures.0 ∙ ap pairs_of c.values.ensures.0 in
    word_steps c.args.x c.pairs-p.result (omega arith) steps
