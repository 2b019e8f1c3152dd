-- Laws of one cell and of sums and maxima of marked cells: marks, keys and masks.
use mathlib.Core.Path.{◌≡◌, refl, sym, ap, ◌∙◌}
use mathlib.Core.Logic.{⊎_elim}
use mathlib.Core.Bool.{Bool, true, not, ◌||◌, ◌&&◌}
use mathlib.Core.List.{List, []}
use Prim.Native.Nat.{ℕ, zero, suc, ◌+◌, ◌-◌, ◌*◌, ◌/◌, ◌%◌, ◌^◌, ◌≤◌, ◌<◌}
use native.Mathlib.Nat.{le_of_eq, le_antisymm, le_trans, zero-mul, one-mul, mul-le-mul_right, mod-eq_of_lt, div-div-eq-div-mul}
use native.Mathlib.Numerals.{add-one}
use native.Mathlib.Omega.{arith}
use borrow.Author.Tests.{lt-ltb, le-ltb, eqb-true}
use lib.Bits.{bit_and, and_mask, and_zero_r}
use lib.Dec.{ltb, eqb}
use lib.ListN.{get_or}
use lib.Pow.{pow-add}
use Rattle.arithmetic.specs.SumsAndMaxima.{sum_below, max_below}
use Rattle.arithmetic.proofs.TestLaws.{lt_or_le, all_below, all_below_lem}
use Rattle.arithmetic.proofs.SumLaws.{max_le, le_max}
use Rattle.map.specs.Map.{largest_count, bit_at}

-- the mask of the cell j of four by their number n of four bits: 32 ones where the cell's bit is set, else 0
abbrev mask_of : ℕ → ℕ → ℕ
mask_of n j = n / 2 ^ (3 - j) % 2 * (2 ^ 32 - 1)

-- ---- marks

pub bit_clear : (x : ℕ) → (x % 2 ≡ 1 → ⊥) → x % 2 ≡ 0
bit_clear x h = omega arith

-- what a mark takes is at most what it is taken from
pub marked_le : (m x : ℕ) → m < 2 → m * x ≤ x
marked_le m x h = let le : m ≤ 1 = omega arith in omega (arith, mul-le-mul_right x le)

pub key_le : (m x : ℕ) → m < 2 → x ≤ largest_count → m * (x + 1) ≤ largest_count + 1
key_le m x h l = le_trans (marked_le m (x + 1) h) (omega arith)

-- where no marked index has more than the marked index q, the largest of f over the marked ones is that of q
pub max_of_marked : (mark f : ℕ → ℕ) → ((i : ℕ) → mark i < 2) → (n : ℕ) {q : ℕ} → q < n → mark q ≡ 1
    → ((p : ℕ) → p < n → mark p ≡ 1 → f p ≤ f q) → max_below (λ p. mark p * f p) n ≡ f q
max_of_marked mark f bit n {q} l m most =
    le_antisymm (max_le (λ p. mark p * f p) (f q) n (λ p k. each (mark p) (f p) (bit p) (most p k)))
    (le_trans (le_of_eq (sym (ap (λ (x : ℕ). x * f q) m ∙ one-mul (f q)))) (le_max (λ p. mark p * f p) n q l))
  where
    each : (k x : ℕ) → k < 2 → (k ≡ 1 → x ≤ f q) → k * x ≤ f q
    each zero x h b = omega arith
    each (suc zero) x h b = omega (arith, b refl)
    each (suc (suc k)) x h b = let wrong : ⊥ = omega arith in absurd wrong

module _ (mark count : ℕ → ℕ) where
  -- where no key is above 0, nothing is marked
  pub no_key : (n : ℕ) → max_below (λ i. mark i * (count i + 1)) n ≡ 0 → sum_below mark n ≡ 0
  unfolding sum_below max_below
  no_key zero h = refl
  no_key (suc n) h =
      let last : mark n * (count n + 1) ≡ 0 = omega arith in
      omega (arith, no_key n (omega arith), clear (mark n) (count n) last)
    where
      clear : (m x : ℕ) → m * (x + 1) ≡ 0 → m ≡ 0
      clear zero x h = refl
      clear (suc m) x h = let wrong : ⊥ = omega arith in absurd wrong

-- the test of two cells by their keys: marks m and n, people x and y
pub by_keys : (m n x y : ℕ) → m < 2 → n < 2 → (eqb m 1 && (not (eqb n 1) || ltb y x)) ≡ ltb (n * (y + 1)) (m * (x + 1))
by_keys zero zero x y h l = simp zero-mul
by_keys zero (suc zero) x y h l = simp (zero-mul, one-mul, add-one) (sym (le-ltb (suc y) 0 (omega arith)))
by_keys (suc zero) zero x y h l = simp (zero-mul, one-mul, add-one) (sym (lt-ltb 0 (suc x) (omega arith)))
by_keys (suc zero) (suc zero) x y h l =
    simp (one-mul, add-one)
    (⊎_elim (λ (k : y < x). lt-ltb y x k ∙ sym (lt-ltb (suc y) (suc x) (omega arith)))
    (λ (k : x ≤ y). le-ltb y x k ∙ sym (le-ltb (suc y) (suc x) (omega arith))) (lt_or_le y x))
by_keys zero (suc (suc n)) x y h l = let wrong : ⊥ = omega arith in absurd wrong
by_keys (suc zero) (suc (suc n)) x y h l = let wrong : ⊥ = omega arith in absurd wrong
by_keys (suc (suc m)) n x y h l = let wrong : ⊥ = omega arith in absurd wrong

-- ---- masks and comparisons

-- a cell's bit is that of the four bits which hold it
pub four_bit : (bits k j : ℕ) → k < 16 → j < 4 → bits / 2 ^ (60 - 4 * k) % 16 / 2 ^ (3 - j) % 2 ≡ bit_at bits (4 * k + j)
four_bit bits k j h l =
    let e : 60 - 4 * k + (3 - j) ≡ 63 - (4 * k + j) = omega arith in
    low (bits / 2 ^ (60 - 4 * k)) (3 - j) (omega arith)
    ∙ ap (λ (x : ℕ). x % 2) (div-div-eq-div-mul bits (2 ^ (60 - 4 * k)) (2 ^ (3 - j)) ∙ ap (λ (x : ℕ). bits / x) (sym (pow-add 2 (60 - 4 * k) (3 - j)) ∙ ap (λ (x : ℕ). 2 ^ x) e))
  where
    low : (x i : ℕ) → i < 4 → x % 16 / 2 ^ i % 2 ≡ x / 2 ^ i % 2
    low x zero h = omega arith
    low x (suc zero) h = omega arith
    low x (suc (suc zero)) h = omega arith
    low x (suc (suc (suc zero))) h = omega arith
    low x (suc (suc (suc (suc i)))) h = let wrong : ⊥ = omega arith in absurd wrong

-- a mask keeps a marked count and makes any other 0
pub masked : (m x : ℕ) → m < 2 → x < 2 ^ 32 → bit_and x (m * (2 ^ 32 - 1)) ≡ m * x
masked zero x h l = and_zero_r x ∙ sym (zero-mul x)
masked (suc zero) x h l = and_mask x 32 ∙ mod-eq_of_lt l ∙ sym (one-mul x)
masked (suc (suc m)) x h l = let wrong : ⊥ = omega arith in absurd wrong

-- the table of the masks, by a test of each entry that is computed
abbrev mask_test : List (List ℕ) → ℕ → ℕ → Bool
mask_test masks n j = eqb (get_or (get_or masks n []) j 0) (mask_of n j)

pub masks_are : (masks : List (List ℕ)) → all_below (λ n. all_below (mask_test masks n) 4) 16 ≡ true
    → (n j : ℕ) → n < 16 → j < 4 → get_or (get_or masks n []) j 0 ≡ mask_of n j
masks_are masks t n j h l =
    eqb-true _ _ (all_below_lem (mask_test masks n) 4 (all_below_lem (λ n. all_below (mask_test masks n) 4) 16 t n h) j l)
