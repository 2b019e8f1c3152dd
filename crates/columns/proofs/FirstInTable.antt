-- The walk over a table to the first entry that passes a test. d stands for the entries past the table's end.
use mathlib.Core.Path.{◌≡◌, refl, ◌∙◌, sym}
use mathlib.Core.Bool.{Bool, true, false, cond, true≢false}
use mathlib.Core.List.{List, [], ◌∷◌}
use mathlib.Core.Logic.{◌⊎◌, inl, inr, ⊎_elim, ◌↔◌}
use Prim.Native.Nat.{ℕ, zero, suc, ◌+◌, ◌≤◌, ◌<◌}
use native.Mathlib.Nat.{not-suc-le-zero, le_of_suc-le-suc}
use native.Mathlib.Omega.{arith}
use Rattle.arithmetic.proofs.TestLaws.{cond_le, lt_or_le}
use lib.ListN.{length, get_or, drop}
use Rattle.columns.specs.Column.{first_from}

-- a walk that counts from j ends before j and the table's length
pub first_max : {A : Type 0} (p : A → Bool) (xs : List A) (j : ℕ) → first_from p (suc j) xs ≤ j + length xs
first_max p [] j = omega arith
first_max p (x ∷ xs) j = cond_le (p x) (omega arith) (omega (arith, first_max p xs (suc j)))

module _ {A : Type 0} (d : A) (p : A → Bool) where
  -- the walk from entry k on, by that entry and those after it
  pub first_step : (xs : List A) (j k : ℕ) → k < length xs → first_from p j (drop k xs) ≡ cond (p (get_or xs k d)) j (first_from p (suc j) (drop (suc k) xs))
  first_step [] j k h = absurd (not-suc-le-zero h)
  first_step (x ∷ xs) j zero h = refl
  first_step (x ∷ xs) j (suc k) h = first_step xs j k (le_of_suc-le-suc h)

  -- entry k is the first that passes the test
  pub record FirstAt (xs : List A) (k : ℕ) : Type 0 where
    pub inside : k < length xs
    pub here : p (get_or xs k d) ≡ true
    pub before : (i : ℕ) → i < k → p (get_or xs i d) ≡ false

  -- the walk comes to the first entry that passes
  pub first_is : (xs : List A) (j k : ℕ) → FirstAt xs k → first_from p j xs ≡ j + k
  first_is [] j k f = absurd (not-suc-le-zero f.inside)
  first_is (x ∷ xs) j zero f = simp f.here (omega arith)
  first_is (x ∷ xs) j (suc k) f =
      let g : FirstAt xs k = record { inside = le_of_suc-le-suc f.inside; here = f.here; before = λ i l. f.before (suc i) (omega arith) }
      in simp (f.before 0 (omega arith)) (omega (arith, first_is xs (suc j) k g))

  -- no entry passes
  abbrev pub NonePasses : List A → Type 0
  NonePasses xs = (i : ℕ) → i < length xs → p (get_or xs i d) ≡ false

  -- then the walk gives 0
  pub first_none : (xs : List A) (j : ℕ) → NonePasses xs → first_from p j xs ≡ 0
  first_none [] j h = refl
  first_none (x ∷ xs) j h = simp (h 0 (omega arith)) (first_none xs (suc j) (λ i l. h (suc i) (omega arith)))

  abbrev FirstOrNone : List A → Type 0
  FirstOrNone xs = ((k : ℕ) × FirstAt xs k) ⊎ NonePasses xs

  -- one entry more in front, that doesn't pass
  past_head : (x : A) (xs : List A) → p x ≡ false → FirstOrNone xs → FirstOrNone (x ∷ xs)
  past_head x xs e (inl r) = inl (suc r.0, record { inside = omega (arith, r.1.inside); here = r.1.here; before = earlier r.0 r.1 })
    where
      earlier : (k : ℕ) → FirstAt xs k → (i : ℕ) → i < suc k → p (get_or (x ∷ xs) i d) ≡ false
      earlier k f zero l = e
      earlier k f (suc i) l = f.before i (le_of_suc-le-suc l)
  past_head x xs e (inr none) = inr (all none)
    where
      all : NonePasses xs → NonePasses (x ∷ xs)
      all none zero l = e
      all none (suc i) l = none i (le_of_suc-le-suc l)

  at_head : (x : A) (xs : List A) (b : Bool) → p x ≡ b → FirstOrNone xs → FirstOrNone (x ∷ xs)
  at_head x xs true e r = inl (0, record { inside = omega arith; here = e; before = λ i l. absurd (not-suc-le-zero l) })
  at_head x xs false e r = past_head x xs e r

  -- there is a first that passes, or none does
  pub first_or_none : (xs : List A) → FirstOrNone xs
  first_or_none [] = inr (λ i l. absurd (not-suc-le-zero l))
  first_or_none (x ∷ xs) = at_head x xs (p x) refl (first_or_none xs)

  module _ (xs : List A) where
    -- where an entry passes there is a first
    pub first_exists : (n : ℕ) → n < length xs → p (get_or xs n d) ≡ true → (k : ℕ) × FirstAt xs k
    first_exists n h t =
        ⊎_elim (λ (r : (k : ℕ) × FirstAt xs k). r) (λ (none : NonePasses xs). absurd (true≢false (sym t ∙ none n h))) (first_or_none xs)

    -- and it is not after that entry
    pub not_after : (n k : ℕ) → p (get_or xs n d) ≡ true → FirstAt xs k → k ≤ n
    not_after n k t f =
        ⊎_elim (λ (q : n < k). absurd (true≢false (sym t ∙ f.before n q))) (λ (q : k ≤ n). q) (lt_or_le n k)

    -- after an entry that passes all others do
    abbrev pub PassesOn : Type 0
    PassesOn = (i k : ℕ) → i ≤ k → k < length xs → p (get_or xs i d) ≡ true → p (get_or xs k d) ≡ true

    -- then the first that passes is one of the first n + 1 exactly when entry n passes
    pub first_at_most : PassesOn → (n : ℕ) → n < length xs → (1 ≤ first_from p 1 xs) × (first_from p 1 xs ≤ n + 1) ↔ p (get_or xs n d) ≡ true
    first_at_most on n l = (to, from)
      where
        to : (1 ≤ first_from p 1 xs) × (first_from p 1 xs ≤ n + 1) → p (get_or xs n d) ≡ true
        to h =
            ⊎_elim
            (λ (r : (k : ℕ) × FirstAt xs k). on r.0 n (omega (arith, first_is xs 1 r.0 r.1)) l r.1.here)
            (λ (none : NonePasses xs). absurd (omega (arith, first_none xs 1 none)))
            (first_or_none xs)

        from : p (get_or xs n d) ≡ true → (1 ≤ first_from p 1 xs) × (first_from p 1 xs ≤ n + 1)
        from t =
            let r = first_exists n l t in omega (arith, first_is xs 1 r.0 r.1, not_after n r.0 t r.1)
