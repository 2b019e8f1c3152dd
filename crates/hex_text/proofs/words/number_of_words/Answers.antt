use Rattle.std.proofs.Common.{ℕ, ◌+◌, ◌*◌, ◌∙◌, ap₂}
use Rattle.hex_text.proofs.WordLaws.{words_join}
use Rattle.hex_text.proofs.words.number_of_words.Goals as goal

pub returns : goal.returns
returns c =
    ap₂ (λ (a b : ℕ). a * 65536 + b) c.number_of_word.ensures c.number_of_word-2.ensures ∙ words_join c.args.x c.args.y
