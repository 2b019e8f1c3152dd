-- Laws of a line of counts: four bytes are a word, and two words are a count.
use mathlib.Core.Path.{◌≡◌, sym, ◌∙◌}
use mathlib.Core.List.{List}
use Prim.Native.Nat.{ℕ, ◌+◌, ◌*◌, ◌<◌}
use native.Mathlib.Omega.{arith}
use lib.ListN.{get_or}
use Rattle.arithmetic.specs.Lists.{tabulate}
use Rattle.arithmetic.proofs.ListLaws.{tabulate_at, tabulate_same}
use Rattle.hex_text.specs.Digits.{field}
use Rattle.hex_text.specs.Blocks.{fields_at}
use Rattle.hex_text.specs.Words.{word_at, number_of_words}
use Rattle.hex_text.proofs.WordLaws.{words_field}
use Rattle.hex_text.proofs.UniformLaws.{uniform_fields}
use Rattle.case_text.specs.Layout.{count_width, count_lines, map_columns}

-- the word i of a line, and the count k of its words
abbrev pub word_in : List ℕ → ℕ → ℕ
word_in line i = word_at line (4 * i)

abbrev pub count_in : List ℕ → ℕ → ℕ
count_in words k = number_of_words (get_or words (2 * k) 0) (get_or words (2 * k + 1) 0)

pub words_counts : (line : List ℕ) → ((i : ℕ) → get_or line i 0 < 256) → tabulate (count_in (tabulate (word_in line) (2 * map_columns))) map_columns ≡ fields_at count_lines.widths line 0
words_counts line small =
    tabulate_same (count_in (tabulate (word_in line) (2 * map_columns))) (λ k. field line (0 + count_width * k) count_width) map_columns
    (λ k l.
    let high : 4 * (2 * k) ≡ 0 + count_width * k = omega arith in
    let low : 4 * (2 * k + 1) ≡ 0 + count_width * k + 4 = omega arith in
    rw (tabulate_at (word_in line) (2 * map_columns) (2 * k) (omega arith), tabulate_at (word_in line) (2 * map_columns) (2 * k + 1) (omega arith), high, low)
    (words_field line (0 + count_width * k) small))
    ∙ sym (uniform_fields count_width line map_columns 0)
