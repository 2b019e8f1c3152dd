use mathlib.Core.Path.{ap₂, ◌∙◌}
use native.Mathlib.Omega.{arith}
use Rattle.hex_text.specs.Words.{number_of_words}
use Rattle.hex_text.proofs.WordLaws.{words_field}
use Rattle.case_text.proofs.fill.eight_at.Goals as goal

pub returns : goal.returns
returns c =
    c.number_of_words.ensures ∙ ap₂ number_of_words c.word_at.ensures c.word_at-2.ensures
    ∙ words_field c.args.text.now c.args.at (λ i. omega (arith, c.type_inv.text i))
