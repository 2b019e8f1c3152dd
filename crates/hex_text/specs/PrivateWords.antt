-- The number in one word, and the steps of its reading. Only private functions are stated by it.
use Rattle.std.specs.Prelude.{ℕ, ◌+◌, ◌-◌, ◌*◌, ◌/◌, bit_and}
use Rattle.hex_text.specs.Digits.{number}
use Rattle.hex_text.specs.Words.{bytes_of}

-- the number that the four digits in a word stand for
abbrev pub number_of_word : ℕ → ℕ
number_of_word x = number 4 (bytes_of x)

-- the value of the digit in each byte, then two digits joined in each second byte
abbrev pub values_of : ℕ → ℕ
values_of x = bit_and (x - 7 * bit_and (x / 64) 16843009) 252645135

abbrev pub pairs_of : ℕ → ℕ
pairs_of v = bit_and (v * 16 + v / 256) 16711935
