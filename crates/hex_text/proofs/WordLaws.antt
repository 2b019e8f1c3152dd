-- Four digits in the lanes of one number become the number that they stand for.
use Rattle.std.proofs.Common.{◌≡◌, ℕ, ◌+◌, ◌-◌, ◌*◌, ◌/◌, ◌%◌, ◌^◌, ◌<◌, ◌≤◌, List, [], ◌∷◌, ◌++◌, get_or, drop, sym, refl, ap, ◌∙◌, ap₂, arith, lit<, get_or-drop}
use lib.Bits.{bit_and, and_block, and_mask, and_zero_r}
use Rattle.arithmetic.specs.Lists.{part}
use Rattle.arithmetic.proofs.PartLaws.{slice_at}
use Rattle.hex_text.specs.Digits.{digit_value, number, field}
use Rattle.hex_text.specs.Words.{lanes, word_at, bytes_of, number_of_words}
use Rattle.hex_text.specs.PrivateWords.{number_of_word, values_of, pairs_of}
use Rattle.hex_text.proofs.DigitLaws.{digit_below, number_split, field_number}

-- four numbers, each below n
abbrev Below : ℕ → ℕ → ℕ → ℕ → ℕ → Type 0
Below n a b c d = (a < n) × (b < n) × (c < n) × (d < n)

-- the highest lane in front
nested : (a b c d : ℕ) → lanes a b c d ≡ ((d * 256 + c) * 256 + b) * 256 + a
nested a b c d = omega arith

-- an "and" of lanes is made lane by lane
lanes_and : (a b c d m n o p : ℕ) → Below 256 a b c d → Below 256 m n o p → bit_and (lanes a b c d) (lanes m n o p) ≡ lanes (bit_and a m) (bit_and b n) (bit_and c o) (bit_and d p)
lanes_and a b c d m n o p s t =
    ap₂ bit_and (nested a b c d) (nested m n o p)
    ∙ and_block 8 ((d * 256 + c) * 256 + b) ((p * 256 + o) * 256 + n) a m s.0 t.0
    ∙ ap (λ (x : ℕ). x * 256 + bit_and a m) (and_block 8 (d * 256 + c) (p * 256 + o) b n s.1 t.1 ∙ ap (λ (x : ℕ). x * 256 + bit_and b n) (and_block 8 d p c o s.2 t.2))
    ∙ sym (nested (bit_and a m) (bit_and b n) (bit_and c o) (bit_and d p))

-- a mask of j ones in each lane keeps each lane's j low bits
lanes_mask : (j a b c d : ℕ) → Below 256 a b c d → 2 ^ j - 1 < 256
    → bit_and (lanes a b c d) (lanes (2 ^ j - 1) (2 ^ j - 1) (2 ^ j - 1) (2 ^ j - 1)) ≡ lanes (a % 2 ^ j) (b % 2 ^ j) (c % 2 ^ j) (d % 2 ^ j)
lanes_mask j a b c d s h =
    rw (lanes_and a b c d (2 ^ j - 1) (2 ^ j - 1) (2 ^ j - 1) (2 ^ j - 1) s (h, h, h, h), and_mask a j, and_mask b j, and_mask c j, and_mask d j)

-- a shift by six: each lane takes in six bits of the next
shifted : (a b c d : ℕ) → Below 256 a b c d → lanes a b c d / 64 ≡ lanes (a / 64 + 4 * (b % 64)) (b / 64 + 4 * (c % 64)) (c / 64 + 4 * (d % 64)) (d / 64)
shifted a b c d s = omega arith

letter : (a b : ℕ) → (a / 64 + 4 * (b % 64)) % 2 ≡ a / 64 % 2
letter a b = omega arith

-- a byte with this bit set is 64 or more
less : (a : ℕ) → 7 * (a / 64 % 2) ≤ a
less a = omega arith

-- seven less for a letter is nine more
digit_is : (a : ℕ) → (a - 7 * (a / 64 % 2)) % 16 ≡ digit_value a
digit_is a = omega arith

-- the value of the digit in each byte
values_are : (a b c d : ℕ) → Below 256 a b c d → values_of (lanes a b c d) ≡ lanes (digit_value a) (digit_value b) (digit_value c) (digit_value d)
values_are a b c d s =
    let letters : bit_and (lanes a b c d / 64) 16843009 ≡ lanes (a / 64 % 2) (b / 64 % 2) (c / 64 % 2) (d / 64 % 2) =
    ap (λ (x : ℕ). bit_and x 16843009) (shifted a b c d s)
    ∙ lanes_mask 1 (a / 64 + 4 * (b % 64)) (b / 64 + 4 * (c % 64)) (c / 64 + 4 * (d % 64)) (d / 64) (omega arith, omega arith, omega arith, omega arith) (lit< tt)
    ∙ rw (letter a b, letter b c, letter c d) refl in
    ap (λ (x : ℕ). bit_and (lanes a b c d - 7 * x) 252645135) letters
    ∙ ap (λ (x : ℕ). bit_and x 252645135) (difference a b c d (a / 64 % 2) (b / 64 % 2) (c / 64 % 2) (d / 64 % 2) (less a) (less b) (less c) (less d))
    ∙ lanes_mask 4 (a - 7 * (a / 64 % 2)) (b - 7 * (b / 64 % 2)) (c - 7 * (c / 64 % 2)) (d - 7 * (d / 64 % 2)) (omega arith, omega arith, omega arith, omega arith) (lit< tt)
    ∙ rw (digit_is a, digit_is b, digit_is c, digit_is d) refl
  where
    difference : (a b c d i j k l : ℕ) → 7 * i ≤ a → 7 * j ≤ b → 7 * k ≤ c → 7 * l ≤ d
        → lanes a b c d - 7 * lanes i j k l ≡ lanes (a - 7 * i) (b - 7 * j) (c - 7 * k) (d - 7 * l)
    difference a b c d i j k l p q r s = omega arith

-- two digits of 4 bits, each in a byte, come together in a byte
pairs_are : (a b c d : ℕ) → Below 16 a b c d → pairs_of (lanes a b c d) ≡ lanes (a * 16 + b) 0 (c * 16 + d) 0
pairs_are a b c d s =
    let spread : lanes a b c d * 16 + lanes a b c d / 256 ≡ lanes (a * 16 + b) (b * 16 + c) (c * 16 + d) (d * 16) = omega arith in
    let first : bit_and (a * 16 + b) 255 ≡ a * 16 + b = omega (arith, and_mask (a * 16 + b) 8) in
    let second : bit_and (c * 16 + d) 255 ≡ c * 16 + d = omega (arith, and_mask (c * 16 + d) 8) in
    ap (λ (x : ℕ). bit_and x 16711935) spread
    ∙ lanes_and (a * 16 + b) (b * 16 + c) (c * 16 + d) (d * 16) 255 0 255 0 (omega arith, omega arith, omega arith, omega arith) (lit< tt, lit< tt, lit< tt, lit< tt)
    ∙ rw (first, second, and_zero_r (b * 16 + c), and_zero_r (d * 16)) refl

pair_joined : (e f : ℕ) → e < 256 → f < 256 → (lanes e 0 f 0 * 256 + lanes e 0 f 0 / 65536) % 65536 ≡ e * 256 + f
pair_joined e f h l =
    let upper : lanes e 0 f 0 / 65536 ≡ f = omega arith in
    let sum : lanes e 0 f 0 * 256 + f ≡ f * 256 * 65536 + (e * 256 + f) = omega arith in
    rw (upper, sum) (omega arith)

in_digits : (a b c d : ℕ) → (a * 16 + b) * 256 + (c * 16 + d) ≡ (((0 * 16 + a) * 16 + b) * 16 + c) * 16 + d
in_digits a b c d = omega arith

below_pair : (a b : ℕ) → a < 16 → b < 16 → a * 16 + b < 256
below_pair a b h l = omega arith

-- what the steps make of four bytes
steps_are : (a b c d : ℕ) → Below 256 a b c d → (p : ℕ) → p ≡ pairs_of (values_of (lanes a b c d)) → (p * 256 + p / 65536) % 65536 ≡ number 4 (a ∷ b ∷ c ∷ d ∷ [])
unfolding number
steps_are a b c d s p is =
    let small = digit_below in
    let p_is = is ∙ ap pairs_of (values_are a b c d s) ∙ pairs_are (digit_value a) (digit_value b) (digit_value c) (digit_value d) (small a, small b, small c, small d) in
    ap (λ (x : ℕ). (x * 256 + x / 65536) % 65536) p_is
    ∙ pair_joined (digit_value a * 16 + digit_value b) (digit_value c * 16 + digit_value d) (below_pair (digit_value a) (digit_value b) (small a) (small b)) (below_pair (digit_value c) (digit_value d) (small c) (small d))
    ∙ in_digits (digit_value a) (digit_value b) (digit_value c) (digit_value d)

-- the steps make of a word the number that its digits stand for
pub word_steps : (x p : ℕ) → x < 4294967296 → p ≡ pairs_of (values_of x) → (p * 256 + p / 65536) % 65536 ≡ number_of_word x
word_steps x p h is =
    let second : x / 256 ≡ x / 65536 * 256 + x / 256 % 256 = omega arith in
    let third : x / 65536 ≡ x / 16777216 * 256 + x / 65536 % 256 = omega arith in
    let fourth : x / 16777216 % 256 ≡ x / 16777216 = omega arith in
    let whole : x ≡ lanes (x % 256) (x / 256 % 256) (x / 65536 % 256) (x / 16777216 % 256) = omega arith in
    steps_are (x % 256) (x / 256 % 256) (x / 65536 % 256) (x / 16777216 % 256) (omega arith, omega arith, omega arith, omega arith) p (is ∙ ap (λ (y : ℕ). pairs_of (values_of y)) whole)

-- and a word has the bytes that it is made of
bytes_of_lem : (a b c d : ℕ) → Below 256 a b c d → bytes_of (lanes a b c d) ≡ a ∷ b ∷ c ∷ d ∷ []
bytes_of_lem a b c d s =
    let first : lanes a b c d % 256 ≡ a = omega arith in
    let second : lanes a b c d / 256 ≡ b + c * 256 + d * 65536 = omega arith in
    let third : lanes a b c d / 65536 ≡ c + d * 256 = omega arith in
    let fourth : lanes a b c d / 16777216 ≡ d = omega arith in
    let bytes : ((b + c * 256 + d * 65536) % 256 ≡ b) × ((c + d * 256) % 256 ≡ c) × (d % 256 ≡ d) = (omega arith, omega arith, omega arith) in
    rw (first, second, third, fourth, bytes.0, bytes.1, bytes.2) refl

-- the word of four digits gives their number
pub word_number : (s : List ℕ) (a : ℕ) → ((i : ℕ) → get_or s i 0 < 256) → number_of_word (word_at s a) ≡ number 4 (drop a s)
unfolding number
word_number s a small =
    let here : a + 0 ≡ a = omega arith in
    ap (number 4) (bytes_of_lem (get_or s a 0) (get_or s (a + 1) 0) (get_or s (a + 2) 0) (get_or s (a + 3) 0) (small a, small (a + 1), small (a + 2), small (a + 3)))
    ∙ rw (get_or-drop a s 0 0, get_or-drop a s 1 0, get_or-drop a s 2 0, get_or-drop a s 3 0, here) refl

-- two words have eight digits
pub words_join : (x y : ℕ) → number_of_word x * 65536 + number_of_word y ≡ number_of_words x y
unfolding number number_of_words
words_join x y = sym (number_split 4 4 0 (bytes_of x ++ bytes_of y))

pub words_field : (s : List ℕ) (a : ℕ) → ((i : ℕ) → get_or s i 0 < 256) → number_of_words (word_at s a) (word_at s (a + 4)) ≡ field s a 8
words_field s a small =
    sym (words_join (word_at s a) (word_at s (a + 4))) ∙ ap₂ (λ (x y : ℕ). x * 65536 + y) (word_number s a small) (word_number s (a + 4) small)
    ∙ sym (number_split 4 4 a s) ∙ sym (field_number s a 8)

-- the word of a part of four bytes
pub word_part : (s : List ℕ) (a : ℕ) → word_at (part s a (a + 4)) 0 ≡ word_at s a
word_part s a =
    let here : a + 0 ≡ a = omega arith in
    let at : (i : ℕ) → i < 4 → get_or (part s a (a + 4)) i 0 ≡ get_or s (a + i) 0 = slice_at s a 4 in
    rw (at 0 (lit< tt), at 1 (lit< tt), at 2 (lit< tt), at 3 (lit< tt), here) refl
