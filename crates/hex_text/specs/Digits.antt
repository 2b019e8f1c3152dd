-- House text of document 01: digits, numbers in digits, fields and lines.
use Rattle.std.specs.Prelude.{ℕ, zero, suc, ◌+◌, ◌-◌, ◌*◌, ◌/◌, ◌%◌, ◌^◌, ◌<◌, Bool, cond, ◌&&◌, ◌||◌, List, [], ◌∷◌, ◌++◌, length, ◌==◌, nat_le, nat_lt, slice_index}
use Rattle.arithmetic.specs.Lists.{every, part}

-- "hexadecimal in lower case": 0 to 9 are the bytes 48 to 57, a to f the bytes 97 to 102
abbrev pub is_digit : ℕ → Bool
is_digit b = (nat_le 48 b && nat_le b 57) || (nat_le 97 b && nat_le b 102)

-- the number that a digit stands for: its low four bits, and nine more for a letter (a byte from 64 on);
-- of a byte that is no digit, a number below 16 that nothing relies on
abbrev pub digit_value : ℕ → ℕ
digit_value b = (b % 16 + 9 * (b / 64 % 2)) % 16

-- the digit that stands for a number below 16
abbrev pub digit_of : ℕ → ℕ
digit_of n = cond (nat_lt n 10) (48 + n) (87 + n)

-- the number that the first k digits of s stand for, the highest first; past the end of s a digit counts 0
unfoldable pub number : ℕ → List ℕ → ℕ
number zero s = 0
number (suc k) s = number k s * 16 + digit_value (slice_index s k)

-- n in k digits, the highest first; of a longer number its last k
unfoldable pub digits : ℕ → ℕ → List ℕ
digits zero n = []
digits (suc k) n = digits k (n / 16) ++ (digit_of (n % 16) ∷ [])

-- the number in the field of s that starts at place a and is w digits wide
abbrev pub field : List ℕ → ℕ → ℕ → ℕ
field s a w = number w (part s a (a + w))

-- fields one after the other, each a width and a value
abbrev pub written : List (ℕ × ℕ) → List ℕ
written [] = []
written (f ∷ fs) = digits f.0 f.1 ++ written fs

-- no value has more digits than its field
abbrev pub Fit : List (ℕ × ℕ) → Type 0
Fit [] = Unit {0}
Fit (f ∷ fs) = (f.1 < 16 ^ f.0) × Fit fs

-- "one frame a line, each ended by byte 10 (decimal)"
abbrev pub line_end_byte : ℕ
line_end_byte = 10

abbrev pub line_end : List ℕ
line_end = line_end_byte ∷ []

-- s is digits with a line end after them
unfoldable pub is_line : List ℕ → Bool
is_line s = every (λ i. is_digit (slice_index s i)) (length s - 1) && slice_index s (length s - 1) == line_end_byte
