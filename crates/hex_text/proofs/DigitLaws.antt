-- Laws of digits: what is written in digits is read back, and digits are those of the number that they stand for.
use Rattle.std.proofs.Common.{◌≡◌, ℕ, zero, suc, ◌+◌, ◌-◌, ◌*◌, ◌/◌, ◌%◌, ◌^◌, ◌<◌, ◌≤◌, Bool, true, false, ◌&&◌, ◌||◌, leb, List, [], ◌∷◌, ◌++◌, length, get_or, take, drop, set, sym, refl, ap, ◌∙◌, ap₂, ⊎_elim, pow-suc, arith, length-append, length-set, get_or-drop, drop-cons, get_or-take, take-suc, get_or-set_same, drop-set-lt, le-ltb, lt-ltb, le-leb, leb-true}
use lib.ListN.{get_or-append}
use lib.Seq.{append_snoc, get_or_at}
use borrow.Author.Tests.{lt-leb}
use Rattle.arithmetic.specs.Lists.{part}
use Rattle.arithmetic.proofs.TestLaws.{lt_or_le, both}
use Rattle.hex_text.specs.Digits.{is_digit, digit_value, digit_of, number, digits, field}

pub digit_below : (b : ℕ) → digit_value b < 16
digit_below b = omega arith

-- k digits stand for a number below 16 to the k
pub number_below : (k : ℕ) (s : List ℕ) → number k s < 16 ^ k
unfolding number
number_below zero s = omega arith
number_below (suc k) s = omega (arith, number_below k s, digit_below (get_or s k 0))

-- the number of a list depends on its digits alone
pub number_same : (k : ℕ) (s t : List ℕ) → ((i : ℕ) → i < k → get_or s i 0 ≡ get_or t i 0) → number k s ≡ number k t
unfolding number
number_same zero s t h = refl
number_same (suc k) s t h =
    ap₂ (λ (x y : ℕ). x * 16 + y) (number_same k s t (λ i l. h i (omega arith))) (ap digit_value (h k (omega arith)))

-- the j digits from place a on and the k after them
pub number_split : (j k a : ℕ) (s : List ℕ) → number (j + k) (drop a s) ≡ number j (drop a s) * 16 ^ k + number k (drop (a + j) s)
unfolding number
number_split j zero a s = let e : j + 0 ≡ j = omega arith in rw e (omega arith)
number_split j (suc k) a s =
    let e : j + suc k ≡ suc (j + k) = omega arith in
    let place : a + (j + k) ≡ a + j + k = omega arith in
    rw (e, get_or-drop a s (j + k) 0, get_or-drop (a + j) s k 0, place, pow-suc 16 k) (omega (arith, number_split j k a s))

-- what stands after a field doesn't matter
pub field_number : (s : List ℕ) (a k : ℕ) → field s a k ≡ number k (drop a s)
field_number s a k = number_same k (part s a (a + k)) (drop a s) (λ i l. get_or-take (a + k - a) (drop a s) i 0 (omega arith))

-- the first j digits of a field and its other k
pub field_split : (s : List ℕ) (a j k : ℕ) → field s a (j + k) ≡ field s a j * 16 ^ k + field s (a + j) k
field_split s a j k = rw (field_number s a (j + k), field_number s a j, field_number s (a + j) k) (number_split j k a s)

-- the digit of a number, and the number of a digit

low_digit : (n : ℕ) → n < 10 → digit_value (48 + n) ≡ n
low_digit n l =
    let m : (48 + n) % 16 ≡ n = omega arith in
    let q : (48 + n) / 64 % 2 ≡ 0 = omega arith in
    let e : (n + 9 * 0) % 16 ≡ n = omega arith in
    ap₂ (λ (a b : ℕ). (a + 9 * b) % 16) m q ∙ e

high_digit : (n : ℕ) → 10 ≤ n → n < 16 → digit_value (87 + n) ≡ n
high_digit n g l =
    let m : (87 + n) % 16 ≡ n - 9 = omega arith in
    let q : (87 + n) / 64 % 2 ≡ 1 = omega arith in
    let e : (n - 9 + 9 * 1) % 16 ≡ n = omega arith in
    ap₂ (λ (a b : ℕ). (a + 9 * b) % 16) m q ∙ e

-- each number below 16 is the value of its digit
pub digit_back : (n : ℕ) → n < 16 → digit_value (digit_of n) ≡ n
digit_back n h = ⊎_elim small large (lt_or_le n 10)
  where
    small : n < 10 → digit_value (digit_of n) ≡ n
    small l = simp (lt-ltb n 10 l) (low_digit n l)

    large : 10 ≤ n → digit_value (digit_of n) ≡ n
    large g = simp (le-ltb n 10 g) (high_digit n g h)

-- and its digit is one
pub digit_is : (n : ℕ) → n < 16 → is_digit (digit_of n) ≡ true
digit_is n h = ⊎_elim small large (lt_or_le n 10)
  where
    small : n < 10 → is_digit (digit_of n) ≡ true
    small l = simp (lt-ltb n 10 l, le-leb (48 + n) 57 (omega arith), le-leb 48 (48 + n) (omega arith))

    large : 10 ≤ n → is_digit (digit_of n) ≡ true
    large g = simp (le-ltb n 10 g, le-leb 48 (87 + n) (omega arith), lt-leb (87 + n) 57 (omega arith), le-leb 97 (87 + n) (omega arith), le-leb (87 + n) 102 (omega arith))

-- a digit is the digit of its value
pub value_back : (b : ℕ) → is_digit b ≡ true → digit_of (digit_value b) ≡ b
value_back b d = chosen (leb 48 b && leb b 57) refl d
  where
    low : leb 48 b && leb b 57 ≡ true → digit_of (digit_value b) ≡ b
    low e =
        let p = both (leb 48 b) (leb b 57) e in
        let l : 48 ≤ b = leb-true 48 b p.0 in
        let g : b ≤ 57 = leb-true b 57 p.1 in
        let e : 48 + (b - 48) ≡ b = omega arith in
        let v : digit_value b ≡ b - 48 = rw e at (low_digit (b - 48) (omega arith)) in
        rw v (simp (lt-ltb (b - 48) 10 (omega arith)) (omega arith))

    high : leb 97 b && leb b 102 ≡ true → digit_of (digit_value b) ≡ b
    high e =
        let p = both (leb 97 b) (leb b 102) e in
        let l : 97 ≤ b = leb-true 97 b p.0 in
        let g : b ≤ 102 = leb-true b 102 p.1 in
        let e : 87 + (b - 87) ≡ b = omega arith in
        let v : digit_value b ≡ b - 87 = rw e at (high_digit (b - 87) (omega arith) (omega arith)) in
        rw v (simp (le-ltb (b - 87) 10 (omega arith)) (omega arith))

    chosen : (t : Bool) → leb 48 b && leb b 57 ≡ t → (t || (leb 97 b && leb b 102)) ≡ true → digit_of (digit_value b) ≡ b
    chosen true e d = low e
    chosen false e d = high d

-- numbers in digits

pub length_digits : (k n : ℕ) → length (digits k n) ≡ k
unfolding digits
length_digits zero n = refl
length_digits (suc k) n = simp (length-append, length_digits k (n / 16)) (omega arith)

-- one digit more, written in front of those that stand already
pub digits_more : (i n d : ℕ) (s : List ℕ) → 0 < i → i ≤ length s → d ≡ digit_of (n % 16) → digits (i - 1) (n / 16) ++ drop (i - 1) (set s (i - 1) d) ≡ digits i n ++ drop i s
unfolding digits
digits_more zero n d s p q e = absurd (omega arith)
digits_more (suc i) n d s p q e =
    let less : suc i - 1 ≡ i = omega arith in
    let long : i < length (set s i d) = simp length-set (omega arith) in
    rw (less, drop-cons (set s i d) i 0 long, get_or-set_same s i d 0 (omega arith), drop-set-lt (suc i) s i d (omega arith), e)
    (sym (append_snoc (digits i (n / 16)) (digit_of (n % 16)) (drop (suc i) s)))

-- a number that was written is read back, if it has no more digits than its field
pub read_written : (k n : ℕ) → n < 16 ^ k → number k (digits k n) ≡ n
unfolding number digits
read_written zero n h = omega arith
read_written (suc k) n h =
    let front = digits k (n / 16) in
    let long = length_digits k (n / 16) in
    let last = get_or_at front (digit_of (n % 16)) [] 0 k long in
    let before = number_same k (front ++ (digit_of (n % 16) ∷ [])) front (λ i l. get_or-append front (digit_of (n % 16) ∷ []) 0 i (omega (arith, long))) in
    rw (last, before, read_written k (n / 16) (omega arith), digit_back (n % 16) (omega arith)) (omega arith)

-- digits are those of the number that they stand for
pub number_back : (s : List ℕ) (k : ℕ) → ((i : ℕ) → i < k → is_digit (get_or s i 0) ≡ true) → k ≤ length s → digits k (number k s) ≡ take k s
unfolding number digits
number_back s zero p h = refl
number_back s (suc k) p h =
    let below = digit_below (get_or s k 0) in
    let front : (number k s * 16 + digit_value (get_or s k 0)) / 16 ≡ number k s = omega arith in
    let last : (number k s * 16 + digit_value (get_or s k 0)) % 16 ≡ digit_value (get_or s k 0) = omega arith in
    rw (front, last, value_back (get_or s k 0) (p k (omega arith)), number_back s k (λ i l. p i (omega arith)) (omega arith)) (sym (take-suc s k 0 h))
