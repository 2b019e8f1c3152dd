-- Four bytes as one number of 32 bits, so that four digits are read at once.
use Rattle.std.specs.Prelude.{ℕ, ◌+◌, ◌*◌, ◌/◌, ◌%◌, List, [], ◌∷◌, ◌++◌, slice_index}
use Rattle.hex_text.specs.Digits.{number}

-- four bytes as one number, the first lowest
abbrev pub lanes : ℕ → ℕ → ℕ → ℕ → ℕ
lanes a b c d = a + b * 256 + c * 65536 + d * 16777216

-- the four bytes of s from place a on; past the end of s a byte counts 0
abbrev pub word_at : List ℕ → ℕ → ℕ
word_at s a = lanes (slice_index s a) (slice_index s (a + 1)) (slice_index s (a + 2)) (slice_index s (a + 3))

-- the four bytes of a word, the lowest first
abbrev pub bytes_of : ℕ → List ℕ
bytes_of x = x % 256 ∷ x / 256 % 256 ∷ x / 65536 % 256 ∷ x / 16777216 % 256 ∷ []

-- the number that the eight digits in two words stand for
unfoldable pub number_of_words : ℕ → ℕ → ℕ
number_of_words x y = number 8 (bytes_of x ++ bytes_of y)
