-- Laws of tests: two numbers compared, tests joined by "or" and "and", a choice by a test, an answer that goes on, a test at each or at some index.
use mathlib.Core.Path.{◌≡◌, refl, sym, ap, ap₂, ◌∙◌}
use mathlib.Core.Logic.{◌⊎◌, inl, inr, ⊎_elim}
use mathlib.Core.Bool.{Bool, true, false, cond, ◌||◌, ◌&&◌, true≢false, false≢true, or-true, or-false, or_assoc}
use Prim.Native.Nat.{ℕ, zero, suc, ◌+◌, ◌≤◌, ◌<◌}
use native.Mathlib.Nat.{not-suc-le-zero, eq-or-lt_of_le, le_of_suc-le-suc, add-zero, add-suc}
use native.Mathlib.Numerals.{add-one}
use native.Mathlib.Omega.{arith}
use borrow.Author.Tests.{le-ltb, ltb-true, ltb-false, leb-true, leb-false, eqb-true}
use lib.Dec.{ltb, leb, eqb}
use mir.Val.{bool_byte}
use Rattle.arithmetic.specs.Conditions.{outside, any_below}

pub lt_or_le : (a b : ℕ) → (a < b) ⊎ (b ≤ a)
lt_or_le a b = by_test (ltb a b) refl
  where
    by_test : (t : Bool) → ltb a b ≡ t → (a < b) ⊎ (b ≤ a)
    by_test true e = inl (ltb-true a b e)
    by_test false e = inr (ltb-false a b e)

-- both parts of an "or" that failed
pub neither : (a b : Bool) → (a || b) ≡ false → (a ≡ false) × (b ≡ false)
neither true b e = absurd (true≢false e)
neither false b e = (refl, e)

-- both parts of an "and" that passed
pub both : (a b : Bool) → (a && b) ≡ true → (a ≡ true) × (b ≡ true)
both true b e = (refl, e)
both false b e = absurd (false≢true e)

-- a test as a number
pub byte_is : (t : Bool) → bool_byte t ≡ cond t 1 0
byte_is true = refl
byte_is false = refl

-- a choice by a test is within a bound that both values keep
pub cond_le : (t : Bool) {a b k : ℕ} → a ≤ k → b ≤ k → cond t a b ≤ k
cond_le true h l = h
cond_le false h l = l

pub le_cond : (t : Bool) {a b k : ℕ} → k ≤ a → k ≤ b → k ≤ cond t a b
le_cond true h l = h
le_cond false h l = l

-- a choice by a comparison is within a bound that each value keeps where it is taken
pub choice_le : (n l : ℕ) {a b k : ℕ} → (n ≤ l → a ≤ k) → (l < n → b ≤ k) → cond (leb n l) a b ≤ k
choice_le n l {a} {b} {k} h g = by_test (leb n l) refl
  where
    by_test : (t : Bool) → leb n l ≡ t → cond t a b ≤ k
    by_test true e = h (leb-true n l e)
    by_test false e = g (leb-false n l e)

-- an answer that goes on where n is 0: if it isn't refused, n is 0
pub went_on : {A : Type 0} (refusal : A → ℕ) (n : ℕ) (x y : A) → refusal y ≡ n → refusal (cond (eqb n 0) x y) ≡ 0 → n ≡ 0
went_on refusal n x y e = by_test (eqb n 0) refl
  where
    by_test : (t : Bool) → eqb n 0 ≡ t → refusal (cond t x y) ≡ 0 → n ≡ 0
    by_test true q h = eqb-true n 0 q
    by_test false q h = sym e ∙ h

-- a number in its range
pub inside : (low high n : ℕ) → outside low high n ≡ false → (low ≤ n) × (n ≤ high)
inside low high n e =
    let h = neither (ltb n low) (ltb high n) e in (ltb-false n low h.0, ltb-false high n h.1)

pub not_outside : (low high n : ℕ) → low ≤ n → n ≤ high → outside low high n ≡ false
not_outside low high n h l = simp (le-ltb n low h, le-ltb high n l)

-- a test at each of 0, .., n - 1, to be computed over a table
abbrev pub all_below : (ℕ → Bool) → ℕ → Bool
all_below p zero = true
all_below p (suc n) = p n && all_below p n

pub all_below_lem : (p : ℕ → Bool) (n : ℕ) → all_below p n ≡ true → (i : ℕ) → i < n → p i ≡ true
all_below_lem p zero t i l = absurd (not-suc-le-zero l)
all_below_lem p (suc n) t i l =
    let h = both (p n) (all_below p n) t in
    ⊎_elim (λ e. ap p e ∙ h.0) (λ (k : i < n). all_below_lem p n h.1 i k) (eq-or-lt_of_le (le_of_suc-le-suc l))

-- ---- a test at some index

module _ (p : ℕ → Bool) where
  -- one index more, as the code counts
  pub any_next : (n : ℕ) → (any_below p n || p n) ≡ any_below p (n + 1)
  unfolding any_below
  any_next n = rw (add-one n)

  pub any_some : (n : ℕ) → any_below p n ≡ true → (i : ℕ) × (i < n) × (p i ≡ true)
  unfolding any_below
  any_some zero e = absurd (false≢true e)
  any_some (suc n) e = by_test (any_below p n) refl (any_some n)
    where
      by_test : (t : Bool) → any_below p n ≡ t → (any_below p n ≡ true → (i : ℕ) × (i < n) × (p i ≡ true))
          → (i : ℕ) × (i < suc n) × (p i ≡ true)
      by_test true h rest = let r = rest h in (r.0, omega (arith, r.1), r.2)
      by_test false h rest = (n, omega arith, sym (ap (λ (t : Bool). t || p n) h) ∙ e)

  pub any_is : (n i : ℕ) → i < n → p i ≡ true → any_below p n ≡ true
  unfolding any_below
  any_is zero i l h = absurd (not-suc-le-zero l)
  any_is (suc n) i l h =
      ⊎_elim (λ e. ap (λ (t : Bool). any_below p n || t) (sym (ap p e) ∙ h) ∙ or-true (any_below p n))
      (λ (k : i < n). ap (λ (t : Bool). t || p n) (any_is n i k h)) (eq-or-lt_of_le (le_of_suc-le-suc l))

  pub any_none : (n : ℕ) → any_below p n ≡ false → (i : ℕ) → i < n → p i ≡ false
  any_none n h i l = by_test (p i) refl
    where
      by_test : (t : Bool) → p i ≡ t → p i ≡ false
      by_test true e = absurd (true≢false (sym (any_is n i l e) ∙ h))
      by_test false e = e

  pub none_any : (n : ℕ) → ((i : ℕ) → i < n → p i ≡ false) → any_below p n ≡ false
  unfolding any_below
  none_any zero h = refl
  none_any (suc n) h =
      ap (λ (t : Bool). t || p n) (none_any n (λ i l. h i (omega arith))) ∙ h n (omega arith)

  -- only the tests at 0, .., n - 1 matter
  pub any_same : (q : ℕ → Bool) (n : ℕ) → ((i : ℕ) → i < n → p i ≡ q i) → any_below p n ≡ any_below q n
  unfolding any_below
  any_same q zero h = refl
  any_same q (suc n) h = ap₂ (λ (x y : Bool). x || y) (any_same q n (λ i l. h i (omega arith))) (h n (omega arith))

  -- the first n, and then m more
  pub any_add : (n m : ℕ) → any_below p (n + m) ≡ (any_below p n || any_below (λ i. p (n + i)) m)
  unfolding any_below
  any_add n zero = rw (add-zero n) (sym (or-false (any_below p n)))
  any_add n (suc m) =
      rw (add-suc n m, any_add n m) (or_assoc (any_below p n) (any_below (λ i. p (n + i)) m) (p (n + m)))
