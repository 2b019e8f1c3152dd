-- The digit law: a number that is written in digits is read back, and digits are those of the number that they stand for.
use Rattle.std.specs.Prelude.{◌≡◌, ℕ, ◌^◌, ◌<◌, ◌≤◌, true, List, length, take, slice_index}
use Rattle.hex_text.specs.Digits.{is_digit, digit_value, digit_of, number, digits}

pub record DigitLaw : Type 0 where
  -- each number below 16 is the value of its digit, which is one; each digit is the digit of its value
  pub digit_back : (n : ℕ) → n < 16 → digit_value (digit_of n) ≡ n
  pub digit_is : (n : ℕ) → n < 16 → is_digit (digit_of n) ≡ true
  pub value_back : (b : ℕ) → is_digit b ≡ true → digit_of (digit_value b) ≡ b
  -- a number with no more digits than its field is read as it was written
  pub read_written : (k n : ℕ) → n < 16 ^ k → number k (digits k n) ≡ n
  -- digits that are read are written again, and their number has no more digits
  pub number_back : (s : List ℕ) (k : ℕ) → ((i : ℕ) → i < k → is_digit (slice_index s i) ≡ true) → k ≤ length s → digits k (number k s) ≡ take k s
  pub number_below : (k : ℕ) (s : List ℕ) → number k s < 16 ^ k
