-- Laws of sums, maxima and first maxima over 0, .., n - 1: equal values, larger values, one index more, two runs, rows of one width, columns.
use mathlib.Core.Path.{◌≡◌, refl, sym, ap, ap₂, ◌∙◌}
use mathlib.Core.Logic.{⊎_elim}
use mathlib.Core.Bool.{Bool, true, false, cond}
use Prim.Native.Nat.{ℕ, zero, suc, ◌+◌, ◌-◌, ◌*◌, ◌/◌, ◌%◌, ◌^◌, ◌≤◌, ◌<◌, max}
use native.Mathlib.Nat.{add-zero, add-suc, le-suc, le_refl, le_trans, max-zero, zero-max, max-eq_left, max-eq_right, le_of_lt, div-div-eq-div-mul, pow-succ'}
use native.Mathlib.Omega.{arith}
use native.Mathlib.Numerals.{add-one}
use borrow.Author.Tests.{lt-ltb, le-ltb}
use lib.Dec.{ltb}
use lib.Arith.{lt-one}
use lib.Count.{ones, ones_step}
use Rattle.arithmetic.specs.SumsAndMaxima.{sum_below, max_below}
use Rattle.arithmetic.specs.PrivateFirstMaximum.{first_max_below}
use Rattle.arithmetic.proofs.TestLaws.{lt_or_le, cond_le}

-- a choice by a test whose outcome is known
chosen : {t : Bool} (a b : ℕ) → t ≡ true → cond t a b ≡ a
chosen a b e = ap (λ (x : Bool). cond x a b) e

left : {t : Bool} (a b : ℕ) → t ≡ false → cond t a b ≡ b
left a b e = ap (λ (x : Bool). cond x a b) e

-- ---- two functions

module _ (f g : ℕ → ℕ) where
  -- only the values at 0, .., n - 1 matter
  pub sum_same : (n : ℕ) → ((i : ℕ) → i < n → f i ≡ g i) → sum_below f n ≡ sum_below g n
  unfolding sum_below
  sum_same zero h = refl
  sum_same (suc n) h = ap₂ (λ (x y : ℕ). x + y) (sum_same n (λ i l. h i (omega arith))) (h n (omega arith))

  pub max_same : (n : ℕ) → ((i : ℕ) → i < n → f i ≡ g i) → max_below f n ≡ max_below g n
  unfolding max_below
  max_same zero h = refl
  max_same (suc n) h = ap₂ max (max_same n (λ i l. h i (omega arith))) (h n (omega arith))

  pub first_same : (n : ℕ) → ((i : ℕ) → i < n → f i ≡ g i) → first_max_below f n ≡ first_max_below g n
  unfolding first_max_below
  first_same zero h = refl
  first_same (suc n) h =
      rw (first_same n (λ i l. h i (omega arith)), max_same n (λ i l. h i (omega arith)), h n (omega arith))

  -- larger values, a larger sum and maximum
  pub sum_mono : (n : ℕ) → ((i : ℕ) → i < n → f i ≤ g i) → sum_below f n ≤ sum_below g n
  unfolding sum_below
  sum_mono zero h = le_refl 0
  sum_mono (suc n) h = omega (arith, sum_mono n (λ i l. h i (omega arith)), h n (omega arith))

  pub max_mono : (n : ℕ) → ((i : ℕ) → i < n → f i ≤ g i) → max_below f n ≤ max_below g n
  unfolding max_below
  max_mono zero h = le_refl 0
  max_mono (suc n) h = omega (arith, max_mono n (λ i l. h i (omega arith)), h n (omega arith))

-- a function that keeps the order and 0 goes through the maximum
pub max_map : (f g : ℕ → ℕ) → g 0 ≡ 0 → ((x y : ℕ) → x ≤ y → g x ≤ g y) → (n : ℕ) → max_below (λ i. g (f i)) n ≡ g (max_below f n)
unfolding max_below
max_map f g z mono zero = sym z
max_map f g z mono (suc n) =
    ap (λ (x : ℕ). max x (g (f n))) (max_map f g z mono n)
    ∙ ⊎_elim
    (λ (l : max_below f n < f n). simp (max-eq_right (le_of_lt l), max-eq_right (mono (max_below f n) (f n) (le_of_lt l))))
    (λ (l : f n ≤ max_below f n). simp (max-eq_left l, max-eq_left (mono (f n) (max_below f n) l)))
    (lt_or_le (max_below f n) (f n))

-- ---- one function

-- the first largest of two runs and one value more
merge : (A B x n m G F : ℕ)
    → cond (ltb (max A B) x) (n + m) (cond (ltb A B) (n + G) F) ≡ cond (ltb A (max B x)) (n + cond (ltb B x) m G) F
merge A B x n m G F =
    ⊎_elim
    (λ (h : max A B < x). simp (lt-ltb (max A B) x h, lt-ltb A (max B x) (omega arith), lt-ltb B x (omega arith)))
    (λ (h : x ≤ max A B). ⊎_elim
    (λ (l : B < x). simp (le-ltb (max A B) x h, le-ltb A B (omega arith), le-ltb A (max B x) (omega arith)))
    (λ (l : x ≤ B). simp (le-ltb (max A B) x h, max-eq_left l, le-ltb B x l))
    (lt_or_le B x))
    (lt_or_le (max A B) x)

module _ (f : ℕ → ℕ) where
  -- one index more, as the code counts
  pub sum_next : (n : ℕ) → sum_below f (n + 1) ≡ sum_below f n + f n
  unfolding sum_below
  sum_next n = rw (add-one n)

  pub max_next : (n : ℕ) → max_below f (n + 1) ≡ max (max_below f n) (f n)
  unfolding max_below
  max_next n = rw (add-one n)

  -- the first n, and then m more
  pub sum_add : (n m : ℕ) → sum_below f (n + m) ≡ sum_below f n + sum_below (λ i. f (n + i)) m
  unfolding sum_below
  sum_add n zero = rw (add-zero n) (sym (add-zero (sum_below f n)))
  sum_add n (suc m) = rw (add-suc n m) (omega (arith, sum_add n m))

  pub max_add : (n m : ℕ) → max_below f (n + m) ≡ max (max_below f n) (max_below (λ i. f (n + i)) m)
  unfolding max_below
  max_add n zero = rw (add-zero n) (sym (max-zero (max_below f n)))
  max_add n (suc m) = rw (add-suc n m) (omega (arith, max_add n m))

  pub first_add : (n m : ℕ)
      → first_max_below f (n + m)
      ≡ cond (ltb (max_below f n) (max_below (λ i. f (n + i)) m)) (n + first_max_below (λ i. f (n + i)) m) (first_max_below f n)
  unfolding first_max_below max_below
  first_add n zero = rw (add-zero n, le-ltb (max_below f n) 0 (omega arith))
  first_add n (suc m) =
      rw (add-suc n m, first_add n m, max_add n m)
      (merge (max_below f n) (max_below (λ i. f (n + i)) m) (f (n + m)) n m (first_max_below (λ i. f (n + i)) m) (first_max_below f n))

  -- ---- bounds

  pub sum_le : (k n : ℕ) → ((i : ℕ) → i < n → f i ≤ k) → sum_below f n ≤ n * k
  unfolding sum_below
  sum_le k zero h = omega arith
  sum_le k (suc n) h = omega (arith, sum_le k n (λ i l. h i (omega arith)), h n (omega arith))

  pub max_le : (k n : ℕ) → ((i : ℕ) → i < n → f i ≤ k) → max_below f n ≤ k
  unfolding max_below
  max_le k zero h = omega arith
  max_le k (suc n) h = omega (arith, max_le k n (λ i l. h i (omega arith)), h n (omega arith))

  pub le_max : (n i : ℕ) → i < n → f i ≤ max_below f n
  unfolding max_below
  le_max zero i l = omega arith
  le_max (suc n) i l =
      ⊎_elim (λ (k : i < n). omega (arith, le_max n i k)) (λ (k : n ≤ i). let e : i ≡ n = omega arith in omega (arith, ap f e))
      (lt_or_le i n)

  pub first_le : (n : ℕ) → first_max_below f n ≤ n
  unfolding first_max_below
  first_le zero = le_refl 0
  first_le (suc n) = cond_le (ltb (max_below f n) (f n)) (le-suc n) (le_trans (first_le n) (le-suc n))

  pub first_lt : (n : ℕ) → 0 < n → first_max_below f n < n
  unfolding first_max_below
  first_lt zero h = let no_index : ⊥ = omega arith in absurd no_index
  first_lt (suc n) h = by_test (ltb (max_below f n) (f n))
    where
      by_test : (t : Bool) → cond t n (first_max_below f n) < suc n
      by_test true = omega arith
      by_test false = omega (arith, first_le n)

  -- ---- what the first maximum is

  -- it has the largest value, where that isn't 0
  pub first_at : (n : ℕ) → 0 < max_below f n → f (first_max_below f n) ≡ max_below f n
  unfolding max_below first_max_below
  first_at zero h = let no_index : ⊥ = omega arith in absurd no_index
  first_at (suc n) h =
      ⊎_elim
      (λ (l : max_below f n < f n). simp (lt-ltb (max_below f n) (f n) l, max-eq_right (le_of_lt l)))
      (λ (l : f n ≤ max_below f n). simp (le-ltb (max_below f n) (f n) l, max-eq_left l) (first_at n (omega arith)))
      (lt_or_le (max_below f n) (f n))

  -- and each index before it has less
  pub first_before : (n i : ℕ) → i < first_max_below f n → f i < max_below f n
  unfolding max_below first_max_below
  first_before zero i l = let no_index : ⊥ = omega arith in absurd no_index
  first_before (suc n) i l =
      ⊎_elim
      (λ (h : max_below f n < f n). let k : i < n = simp (lt-ltb (max_below f n) (f n) h) at l in omega (arith, le_max n i k))
      (λ (h : f n ≤ max_below f n). let k : i < first_max_below f n = simp (le-ltb (max_below f n) (f n) h) at l in omega (arith, first_before n i k))
      (lt_or_le (max_below f n) (f n))

  module _ (n top : ℕ) (pos : 0 < top) (t : top ≡ max_below f n) where
    -- an index with the largest value, and none before it, is the first
    pub first_is : (c : ℕ) → c < n → f c ≡ top → ((k : ℕ) → k < c → f k ≡ top → ⊥) → c ≡ first_max_below f n
    first_is c l e h =
        ⊎_elim
        (λ (q : c < first_max_below f n). let wrong : ⊥ = omega (arith, first_before n c q) in absurd wrong)
        (λ (q : first_max_below f n ≤ c). ⊎_elim
        (λ (z : first_max_below f n < c). absurd (h (first_max_below f n) z (first_at n (omega arith) ∙ sym t)))
        (λ (z : c ≤ first_max_below f n). omega arith)
        (lt_or_le (first_max_below f n) c))
        (lt_or_le c (first_max_below f n))

    -- and there is one
    pub first_found : ((k : ℕ) → k < n → f k ≡ top → ⊥) → 0 < n → ⊥
    first_found h l = h (first_max_below f n) (first_lt n l) (first_at n (omega arith) ∙ sym t)

  -- ---- where f is 0 after the first index

  pub sum_first : (n : ℕ) → ((i : ℕ) → i < n → f (suc i) ≡ 0) → sum_below f (suc n) ≡ f 0
  unfolding sum_below
  sum_first zero h = omega arith
  sum_first (suc n) h = omega (arith, sum_first n (λ i l. h i (omega arith)), h n (omega arith))

  pub max_first : (n : ℕ) → ((i : ℕ) → i < n → f (suc i) ≡ 0) → max_below f (suc n) ≡ f 0
  unfolding max_below
  max_first zero h = omega arith
  max_first (suc n) h = omega (arith, max_first n (λ i l. h i (omega arith)), h n (omega arith))

  pub first_first : (n : ℕ) → ((i : ℕ) → i < n → f (suc i) ≡ 0) → first_max_below f (suc n) ≡ 0
  unfolding first_max_below
  first_first zero h = by_test (ltb (max_below f 0) (f 0))
    where
      by_test : (t : Bool) → ◌≡◌ {A = ℕ} (cond t 0 0) 0
      by_test true = refl
      by_test false = refl
  first_first (suc n) h =
      rw (h n (omega arith), le-ltb (max_below f (suc n)) 0 (omega arith)) (first_first n (λ i l. h i (omega arith)))

-- ---- by rows: f over n rows of w indices each

module _ (f : ℕ → ℕ) (w : ℕ) where
  abbrev pub row_sum : ℕ → ℕ
  row_sum r = sum_below (λ c. f (w * r + c)) w

  abbrev pub row_max : ℕ → ℕ
  row_max r = max_below (λ c. f (w * r + c)) w

  next_row : (n : ℕ) → w * suc n ≡ w * n + w
  next_row n = omega arith

  no_row : w * 0 ≡ 0
  no_row = omega arith

  pub sum_rows : (n : ℕ) → sum_below row_sum n ≡ sum_below f (w * n)
  unfolding sum_below
  sum_rows zero = sym (ap (sum_below f) no_row)
  sum_rows (suc n) = ap (λ (x : ℕ). x + row_sum n) (sum_rows n) ∙ sym (sum_add f (w * n) w) ∙ sym (ap (sum_below f) (next_row n))

  pub max_rows : (n : ℕ) → max_below row_max n ≡ max_below f (w * n)
  unfolding max_below
  max_rows zero = sym (ap (max_below f) no_row)
  max_rows (suc n) =
      ap (λ (x : ℕ). max x (row_max n)) (max_rows n) ∙ sym (max_add f (w * n) w) ∙ sym (ap (max_below f) (next_row n))

  -- the first maximum is in the first row with the largest value
  abbrev pub first_in_row : ℕ → ℕ
  first_in_row r = w * r + first_max_below (λ c. f (w * r + c)) w

  first_suc : (n : ℕ) → first_max_below row_max (suc n) ≡ cond (ltb (max_below row_max n) (row_max n)) n (first_max_below row_max n)
  unfolding first_max_below
  first_suc n = refl

  max_none : max_below f 0 ≡ 0
  unfolding max_below
  max_none = refl

  pub first_rows : (n : ℕ) → 0 < max_below f (w * n) → first_max_below f (w * n) ≡ first_in_row (first_max_below row_max n)
  first_rows zero h = let wrong : ⊥ = omega (arith, ap (max_below f) no_row, max_none) in absurd wrong
  first_rows (suc n) h =
      let here = ap (first_max_below f) (next_row n) ∙ first_add f (w * n) w in
      ⊎_elim
      (λ (l : max_below f (w * n) < row_max n).
      let l' : max_below row_max n < row_max n = rw (max_rows n) l in
      here ∙ chosen (first_in_row n) (first_max_below f (w * n)) (lt-ltb (max_below f (w * n)) (row_max n) l)
      ∙ sym (ap first_in_row (first_suc n ∙ chosen n (first_max_below row_max n) (lt-ltb (max_below row_max n) (row_max n) l'))))
      (λ (l : row_max n ≤ max_below f (w * n)).
      let l' : row_max n ≤ max_below row_max n = rw (max_rows n) l in
      let more : 0 < max_below f (w * n) = omega (arith, ap (max_below f) (next_row n) ∙ max_add f (w * n) w) in
      here ∙ left (first_in_row n) (first_max_below f (w * n)) (le-ltb (max_below f (w * n)) (row_max n) l) ∙ first_rows n more
      ∙ sym (ap first_in_row (first_suc n ∙ left n (first_max_below row_max n) (le-ltb (max_below row_max n) (row_max n) l'))))
      (lt_or_le (max_below f (w * n)) (row_max n))

-- ---- by columns: f over n rows of four indices each

-- the larger of two pairs, and of two fours, place by place
max_swap : (a b x y : ℕ) → max (max a b) (max x y) ≡ max (max a x) (max b y)
max_swap a b x y = omega arith

max_swap_four : (a b c d x y z t : ℕ)
    → max (max (max (max a b) c) d) (max (max (max x y) z) t) ≡ max (max (max (max a x) (max b y)) (max c z)) (max d t)
max_swap_four a b c d x y z t =
    max_swap (max (max a b) c) d (max (max x y) z) t
    ∙ ap (λ (m : ℕ). max m (max d t)) (max_swap (max a b) c (max x y) z ∙ ap (λ (m : ℕ). max m (max c z)) (max_swap a b x y))

module _ (f : ℕ → ℕ) where
  pub sum_columns : (n : ℕ) → sum_below f (4 * n)
      ≡ sum_below (λ i. f (4 * i + 0)) n + sum_below (λ i. f (4 * i + 1)) n + sum_below (λ i. f (4 * i + 2)) n + sum_below (λ i. f (4 * i + 3)) n
  unfolding sum_below
  sum_columns zero = refl
  sum_columns (suc n) = omega (arith, sum_columns n, ap (sum_below f) (next_row f 4 n) ∙ sum_add f (4 * n) 4)

  pub max_columns : (n : ℕ) → max_below f (4 * n)
      ≡ max (max (max (max_below (λ i. f (4 * i + 0)) n) (max_below (λ i. f (4 * i + 1)) n)) (max_below (λ i. f (4 * i + 2)) n)) (max_below (λ i. f (4 * i + 3)) n)
  unfolding max_below
  max_columns zero = refl
  max_columns (suc n) =
      ap (max_below f) (next_row f 4 n) ∙ max_add f (4 * n) 4
      ∙ ap₂ max (max_columns n) (ap (λ (x : ℕ). max (max (max x (f (4 * n + 1))) (f (4 * n + 2))) (f (4 * n + 3))) (zero-max (f (4 * n + 0))))
      ∙ max_swap_four _ _ _ _ (f (4 * n + 0)) (f (4 * n + 1)) (f (4 * n + 2)) (f (4 * n + 3))

-- ---- the digits of a number

-- one digit lower, of half the number
half_digit : (k w c : ℕ) → c < k → w / 2 / 2 ^ (k - suc c) ≡ w / 2 ^ (suc k - suc c)
half_digit k w c l =
    let e : suc k - suc c ≡ suc (k - suc c) = omega arith in
    div-div-eq-div-mul w 2 (2 ^ (k - suc c)) ∙ rw (e, pow-succ' 2 (k - suc c))

-- the number of set bits is the sum of the binary digits, highest first
pub ones_sum : (k w : ℕ) → w < 2 ^ k → ones w ≡ sum_below (λ c. w / 2 ^ (k - suc c) % 2) k
unfolding sum_below ones
ones_sum zero w h = ap ones (lt-one h)
ones_sum (suc k) w h =
    let ih = ones_sum k (w / 2) (omega arith) in
    let rest = sum_same (λ c. w / 2 / 2 ^ (k - suc c) % 2) (λ c. w / 2 ^ (suc k - suc c) % 2) k (λ c l. ap (λ (x : ℕ). x % 2) (half_digit k w c l)) in
    let none : suc k - suc k ≡ 0 = omega arith in
    let last : w / 2 ^ (suc k - suc k) % 2 ≡ w % 2 = rw none (omega arith) in
    omega (arith, ones_step w, ih, rest, last)
