-- Laws of lines: what is written in digits with a line end is a line, and what a line is made of.
use Rattle.std.proofs.Common.{◌≡◌, ℕ, zero, suc, ◌+◌, ◌-◌, ◌/◌, ◌%◌, ◌^◌, ◌<◌, ◌≤◌, max, Bool, true, false, ◌&&◌, eqb, leb, List, [], ◌∷◌, ◌++◌, length, get_or, take, drop, sym, refl, ap, ◌∙◌, ap₂, arith, length-append, length-drop, length-take, get_or-drop, take_all, drop-cons, get_or-take, eqb-true, le-leb, leb-false, leb-true}
use lib.ListN.{get_or-append}
use lib.Seq.{get_or_at}
use borrow.Author.Tests.{lt-leb}
use Rattle.std.specs.List.{IsLastAndRest}
use Rattle.arithmetic.specs.Lists.{every}
use Rattle.arithmetic.proofs.TestLaws.{both}
use Rattle.arithmetic.proofs.ListLaws.{every_at, every_all}
use Rattle.arithmetic.proofs.PartLaws.{PartIs, within}
use Rattle.hex_text.specs.Digits.{is_digit, digit_of, number, digits, field, is_line, line_end}
use Rattle.hex_text.proofs.DigitLaws.{digit_is, length_digits, read_written, number_back}

-- each byte is a digit
pub data AllDigits : List ℕ → Type 0 where
  none : AllDigits []
  more : {b : ℕ} {s : List ℕ} → is_digit b ≡ true → AllDigits s → AllDigits (b ∷ s)

pub digits_append : (x y : List ℕ) → AllDigits x → AllDigits y → AllDigits (x ++ y)
digits_append x y none q = q
digits_append x y (more {s = s} h p) q = more h (digits_append s y p q)

digits_take : (n : ℕ) (x : List ℕ) → AllDigits x → AllDigits (take n x)
digits_take zero x p = none
digits_take (suc n) x none = none
digits_take (suc n) x (more {s = s} h p) = more h (digits_take n s p)

digits_drop : (n : ℕ) (x : List ℕ) → AllDigits x → AllDigits (drop n x)
digits_drop zero x p = p
digits_drop (suc n) x none = none
digits_drop (suc n) x (more {s = s} h p) = digits_drop n s p

digits_at : (x : List ℕ) → AllDigits x → (i : ℕ) → i < length x → is_digit (get_or x i 0) ≡ true
digits_at x none i l = absurd (omega arith)
digits_at x (more h p) zero l = h
digits_at x (more {s = s} h p) (suc i) l = digits_at s p i (omega arith)

digits_all : (x : List ℕ) → ((i : ℕ) → i < length x → is_digit (get_or x i 0) ≡ true) → AllDigits x
digits_all [] p = none
digits_all (b ∷ x) p = more (p 0 (omega arith)) (digits_all x (λ i l. p (suc i) (omega arith)))

-- what is written is digits
pub digits_digits : (k n : ℕ) → AllDigits (digits k n)
unfolding digits
digits_digits zero n = none
digits_digits (suc k) n =
    digits_append (digits k (n / 16)) (digit_of (n % 16) ∷ []) (digits_digits k (n / 16)) (more (digit_is (n % 16) (omega arith)) none)

-- a part of digits
pub digits_within : (s : List ℕ) (a k b j : ℕ) → b + j ≤ k → AllDigits (take k (drop a s)) → AllDigits (take j (drop (a + b) s))
digits_within s a k b j h p =
    rw (within s a k b j h) at (digits_take j (drop b (take k (drop a s))) (digits_drop b (take k (drop a s)) p))

-- a field

field_part : (s : List ℕ) (a k : ℕ) → field s a k ≡ number k (take k (drop a s))
field_part s a k = let wide : a + k - a ≡ k = omega arith in rw wide

-- a number that stands in its field is read
pub field_read : (s : List ℕ) (a k n : ℕ) → n < 16 ^ k → PartIs s a k (digits k n) → field s a k ≡ n
field_read s a k n h p = field_part s a k ∙ rw p.is (read_written k n h)

-- a field of digits holds the digits of the number that is read
pub field_is : (s : List ℕ) (a k : ℕ) → a + k ≤ length s → AllDigits (take k (drop a s)) → PartIs s a k (digits k (field s a k))
field_is s a k h p =
    let x = take k (drop a s) in
    let long : length (take k (drop a s)) ≡ k = simp (length-take, length-drop) (omega arith) in
    let back = number_back x k (λ i l. digits_at x p i (omega arith)) (omega arith) ∙ take_all k x (omega arith) in
    record {
      is = sym (ap (digits k) (field_part s a k) ∙ back);
      long = length_digits k (field s a k);
    }

-- the larger of two is within a bound that both keep
pub max_within : (a b k : ℕ) → leb (max a b) k ≡ leb a k && leb b k
max_within a b k = by_tests (leb a k) (leb b k) refl refl
  where
    by_tests : (s t : Bool) → leb a k ≡ s → leb b k ≡ t → leb (max a b) k ≡ s && t
    by_tests true true p q = le-leb (max a b) k (omega (arith, leb-true a k p, leb-true b k q))
    by_tests true false p q = lt-leb (max a b) k (omega (arith, leb-false b k q))
    by_tests false t p q = lt-leb (max a b) k (omega (arith, leb-false a k p))

-- a line

every_same : (t u : ℕ → Bool) (n : ℕ) → ((i : ℕ) → i < n → t i ≡ u i) → every t n ≡ every u n
unfolding every
every_same t u zero h = refl
every_same t u (suc n) h = ap₂ ◌&&◌ (every_same t u n (λ i l. h i (omega arith))) (h n (omega arith))

-- nothing is no line
pub empty_no_line : (s : List ℕ) → length s ≡ 0 → is_line s ≡ false
unfolding is_line every
empty_no_line [] e = refl
empty_no_line (b ∷ s) e = absurd (omega arith)

-- by its digits and its last byte
pub line_is : (s digits : List ℕ) (last : ℕ) → IsLastAndRest s last digits → is_line s ≡ every (λ i. is_digit (get_or digits i 0)) (length digits) && eqb last 10
unfolding is_line
line_is s digits last h =
    let long : length s - 1 ≡ length digits = omega (arith, h.1) in
    rw (
      long,
      h.0,
      get_or_at digits last [] 0 (length digits) refl,
      every_same (λ (i : ℕ). is_digit (get_or (digits ++ (last ∷ [])) i 0)) (λ (i : ℕ). is_digit (get_or digits i 0)) (length digits) (λ i l. rw (get_or-append digits (last ∷ []) 0 i l)),
    )

pub line_of : (x : List ℕ) → AllDigits x → is_line (x ++ line_end) ≡ true
unfolding is_line
line_of x p =
    let last : length (x ++ line_end) - 1 ≡ length x = simp length-append (omega arith) in
    rw (last, get_or_at x 10 [] 0 (length x) refl, every_all (λ (i : ℕ). is_digit (get_or (x ++ line_end) i 0)) (length x) (λ i l. rw (get_or-append x line_end 0 i l) (digits_at x p i l)))

-- in s, from place a, there is a line of m digits
pub record LineAt (s : List ℕ) (a m : ℕ) : Type 0 where
  pub digits : AllDigits (take m (drop a s))
  pub end : PartIs s (a + m) 1 line_end

pub line_at : (s : List ℕ) (a m : ℕ) → a + suc m ≤ length s → is_line (take (suc m) (drop a s)) ≡ true → LineAt s a m
unfolding is_line
line_at s a m h e =
    let line = take (suc m) (drop a s) in
    let long : length (take (suc m) (drop a s)) ≡ suc m = simp (length-take, length-drop) (omega arith) in
    let short : length (take m (drop a s)) ≡ m = simp (length-take, length-drop) (omega arith) in
    let last : length (take (suc m) (drop a s)) - 1 ≡ m = omega arith in
    let p = rw last at (both (every (λ (i : ℕ). is_digit (get_or line i 0)) (length line - 1)) (eqb (get_or line (length line - 1) 0) 10) e) in
    let ten : get_or s (a + m) 0 ≡ 10 = sym (get_or-take (suc m) (drop a s) m 0 (omega arith) ∙ get_or-drop a s m 0) ∙ eqb-true (get_or line m 0) 10 p.1 in
    record {
      digits =
          digits_all (take m (drop a s)) (λ i l. rw (get_or-take m (drop a s) i 0 (omega arith), ← (get_or-take (suc m) (drop a s) i 0 (omega arith))) (every_at (λ (i : ℕ). is_digit (get_or line i 0)) m p.0 i (omega arith)));
      end = record { is = rw (drop-cons s (a + m) 0 (omega arith), ten); long = refl };
    }
