-- Laws of refusals tested in an order.
use mathlib.Core.Path.{◌≡◌, refl, sym, ap, ◌∙◌}
use mathlib.Core.Logic.{inl, inr, ⊎_elim, ◌↔◌}
use mathlib.Core.Bool.{Bool, true, false, cond, not, ◌||◌, ◌&&◌, true≢false, false≢true}
use mathlib.Core.List.{List, [], ◌∷◌, ◌++◌}
use Prim.Native.Nat.{ℕ, ◌≤◌}
use native.Mathlib.Omega.{arith}
use borrow.Author.Tests.{eqb-true, eqb-false, eq-eqb, ne_eqb, not-true, leb-true}
use lib.Dec.{eqb, leb}
use Rattle.refusal.specs.Refusals.{Test, answered, first_refusal, numbers, FirstToHold, OneOf, fresh, distinct}
use Rattle.arithmetic.proofs.TestLaws.{both}

-- ---- numbers that tell the tests apart

-- a number that no test has doesn't come
fresh_never : (ts : List Test) (n : ℕ) → fresh n ts ≡ true → first_refusal ts ≡ n → ⊥
fresh_never [] n d e = eqb-false n 0 (not-true _ d) (sym e)
fresh_never (t ∷ ts) n d e =
    let h = both (not (eqb t.number n)) (fresh n ts) d in
    by_test t.holds (eqb-false t.number n (not-true _ h.0)) (fresh_never ts n h.1) e
  where
    by_test : (b : Bool) → (t.number ≡ n → ⊥) → (first_refusal ts ≡ n → ⊥) → cond b t.number (first_refusal ts) ≡ n → ⊥
    by_test true other rest = other
    by_test false other rest = rest

fresh_nonzero : (ts : List Test) (n : ℕ) → fresh n ts ≡ true → n ≡ 0 → ⊥
fresh_nonzero [] n d = eqb-false n 0 (not-true _ d)
fresh_nonzero (t ∷ ts) n d = fresh_nonzero ts n (both (not (eqb t.number n)) (fresh n ts) d).1

-- a number comes exactly when its test is the first that holds
pub first_exactly_when : (ts : List Test) → distinct ts ≡ true → (n : ℕ) → first_refusal ts ≡ n ↔ FirstToHold ts n
first_exactly_when [] d n = (sym, sym)
first_exactly_when (t ∷ ts) d n =
    let h = both (fresh t.number ts) (distinct ts) d in
    by_tests t.holds (eqb t.number n) refl (fresh_never ts t.number h.0) (first_exactly_when ts h.1 n)
  where
    by_tests : (b q : Bool) → eqb t.number n ≡ q → (first_refusal ts ≡ t.number → ⊥) → (first_refusal ts ≡ n ↔ FirstToHold ts n)
        → cond b t.number (first_refusal ts) ≡ n ↔ cond q (b ≡ true) ((b ≡ false) × FirstToHold ts n)
    by_tests true true e never rest = (λ _. refl, λ _. eqb-true _ _ e)
    by_tests true false e never rest = (λ k. absurd (eqb-false _ _ e k), λ k. absurd (true≢false k.0))
    by_tests false true e never rest = (λ k. absurd (never (k ∙ sym (eqb-true _ _ e))), λ k. absurd (false≢true k))
    by_tests false false e never rest = (λ k. (refl, rest.0 k), λ k. rest.1 k.1)

-- ---- tests after tests

-- no test has the number n, to be computed
abbrev pub none_numbered : ℕ → List Test → Bool
none_numbered n [] = true
none_numbered n (t ∷ ts) = not (eqb t.number n) && none_numbered n ts

-- of tests after those with other numbers, n's is the first to hold where none of those before does and it is the first of its own
pub first_after : (ts us : List Test) (n : ℕ) → none_numbered 0 ts ≡ true → none_numbered n ts ≡ true
    → FirstToHold (ts ++ us) n ↔ FirstToHold ts 0 × FirstToHold us n
first_after [] us n z d = (λ h. (refl, h), λ h. h.1)
first_after (t ∷ ts) us n z d =
    let y = both (not (eqb t.number 0)) (none_numbered 0 ts) z in
    let e = both (not (eqb t.number n)) (none_numbered n ts) d in
    by_tests (eqb t.number n) (eqb t.number 0) (not-true _ e.0) (not-true _ y.0) (first_after ts us n y.1 e.1)
  where
    by_tests : (b q : Bool) → b ≡ false → q ≡ false → (FirstToHold (ts ++ us) n ↔ FirstToHold ts 0 × FirstToHold us n)
        → cond b (t.holds ≡ true) ((t.holds ≡ false) × FirstToHold (ts ++ us) n)
        ↔ cond q (t.holds ≡ true) ((t.holds ≡ false) × FirstToHold ts 0) × FirstToHold us n
    by_tests true q e f rest = absurd (true≢false e)
    by_tests false true e f rest = absurd (true≢false f)
    by_tests false false e f rest =
        (λ h. let r = rest.0 h.1 in ((h.0, r.0), r.1), λ h. (h.0.0, rest.1 (h.0.1, h.1)))

-- ---- what a number says, one test after the other: `FirstToHold` as the arguments of a function

-- R follows where n's test is the first that holds
abbrev pub FollowsFrom : List Test → ℕ → Type 0 → Type 0
FollowsFrom [] n R = cond (eqb n 0) R (Prim.Unit {0})
FollowsFrom (t ∷ ts) n R = cond (eqb t.number n) (t.holds ≡ true → R) (t.holds ≡ false → FollowsFrom ts n R)

follows : {R : Type 0} (ts : List Test) (n : ℕ) → (FirstToHold ts n → R) → FollowsFrom ts n R
follows {R} [] n f = by_test (eqb n 0) refl
  where
    by_test : (b : Bool) → eqb n 0 ≡ b → cond b R (Prim.Unit {0})
    by_test true e = f (eqb-true n 0 e)
    by_test false e = tt
follows {R} (t ∷ ts) n f = by_test (eqb t.number n) f (follows ts n)
  where
    by_test : (b : Bool) → (cond b (t.holds ≡ true) ((t.holds ≡ false) × FirstToHold ts n) → R) → ((FirstToHold ts n → R) → FollowsFrom ts n R)
        → cond b (t.holds ≡ true → R) (t.holds ≡ false → FollowsFrom ts n R)
    by_test true g rest = g
    by_test false g rest = λ e. rest (λ h. g (e, h))

pub use_of : {R : Type 0} (ts : List Test) (n : ℕ) → FirstToHold ts n → FollowsFrom ts n R → R
use_of {R} [] n h f = by_test (eqb n 0) (eq-eqb n 0 h) f
  where
    by_test : (b : Bool) → b ≡ true → cond b R (Prim.Unit {0}) → R
    by_test true e r = r
    by_test false e r = absurd (false≢true e)
use_of {R} (t ∷ ts) n h f = by_test (eqb t.number n) h f (use_of ts n)
  where
    by_test : (b : Bool) → cond b (t.holds ≡ true) ((t.holds ≡ false) × FirstToHold ts n)
        → cond b (t.holds ≡ true → R) (t.holds ≡ false → FollowsFrom ts n R) → (FirstToHold ts n → FollowsFrom ts n R → R) → R
    by_test true k g rest = g k
    by_test false k g rest = rest k.1 (g k.0)

-- the number itself as a way out
pub first_way_out : (ts : List Test) → distinct ts ≡ true → (n : ℕ) → FollowsFrom ts n (n ≡ first_refusal ts)
first_way_out ts d n = follows ts n (λ h. sym ((first_exactly_when ts d n).1 h))

-- ---- the numbers that can come

pub first_listed : (ts : List Test) → OneOf (first_refusal ts) (0 ∷ numbers ts)
first_listed [] = inl refl
first_listed (t ∷ ts) = by_test t.holds (first_listed ts)
  where
    by_test : (b : Bool) → OneOf (first_refusal ts) (0 ∷ numbers ts) → OneOf (cond b t.number (first_refusal ts)) (0 ∷ t.number ∷ numbers ts)
    by_test true rest = inr (inl refl)
    by_test false rest = ⊎_elim (λ e. inl e) (λ (l : OneOf (first_refusal ts) (numbers ts)). inr (inr l)) rest

abbrev is_one_of : ℕ → List ℕ → Bool
is_one_of n [] = false
is_one_of n (k ∷ ks) = eqb n k || is_one_of n ks

one_of : (n : ℕ) (ks : List ℕ) → is_one_of n ks ≡ true → OneOf n ks
one_of n [] e = absurd (false≢true e)
one_of n (k ∷ ks) e = by_test (eqb n k) refl e (one_of n ks)
  where
    by_test : (b : Bool) → eqb n k ≡ b → (b || is_one_of n ks) ≡ true → (is_one_of n ks ≡ true → OneOf n ks) → OneOf n (k ∷ ks)
    by_test true q h rest = inl (eqb-true n k q)
    by_test false q h rest = inr (rest h)

-- each number of a list is one of another, to be computed
abbrev pub each_one_of : List ℕ → List ℕ → Bool
each_one_of [] ks = true
each_one_of (n ∷ ns) ks = is_one_of n ks && each_one_of ns ks

pub one_of_more : (n : ℕ) (ns ks : List ℕ) → each_one_of ns ks ≡ true → OneOf n ns → OneOf n ks
one_of_more n [] ks e h = absurd h
one_of_more n (m ∷ ns) ks e h =
    let l = both (is_one_of m ks) (each_one_of ns ks) e in
    ⊎_elim (λ (q : n ≡ m). one_of n ks (ap (λ (i : ℕ). is_one_of i ks) q ∙ l.0)) (λ (r : OneOf n ns). one_of_more n ns ks l.1 r) h

pub answered_one_of : (ts : List Test) (n : ℕ) (ks : List ℕ) → each_one_of (numbers ts) ks ≡ true → OneOf n ks → OneOf (answered ts n (λ m. m)) ks
answered_one_of [] n ks e h = h
answered_one_of (t ∷ ts) n ks e h =
    let l = both (is_one_of t.number ks) (each_one_of (numbers ts) ks) e in
    by_test t.holds (one_of t.number ks l.0) (answered_one_of ts n ks l.1 h)
  where
    by_test : (b : Bool) → OneOf t.number ks → OneOf (answered ts n (λ m. m)) ks → OneOf (cond b t.number (answered ts n (λ m. m))) ks
    by_test true first rest = first
    by_test false first rest = rest

-- a number of the list is at most the largest
abbrev all_at_most : ℕ → List ℕ → Bool
all_at_most most [] = true
all_at_most most (k ∷ ks) = leb k most && all_at_most most ks

pub one_of_le : (most n : ℕ) (ks : List ℕ) → all_at_most most ks ≡ true → OneOf n ks → n ≤ most
one_of_le most n [] e h = absurd h
one_of_le most n (k ∷ ks) e h =
    let l = both (leb k most) (all_at_most most ks) e in
    ⊎_elim (λ (q : n ≡ k). omega (arith, leb-true k most l.0)) (λ (r : OneOf n ks). one_of_le most n ks l.1 r) h

-- ---- the answer

module _ {A : Type 0} (accepted : A) (refused : ℕ → A) where
  -- the answer by its number
  pub by_number : (ts : List Test) → distinct ts ≡ true
      → cond (eqb (first_refusal ts) 0) accepted (refused (first_refusal ts)) ≡ answered ts accepted refused
  by_number [] d = refl
  by_number (t ∷ ts) d =
      let h = both (fresh t.number ts) (distinct ts) d in
      by_test t.holds (fresh_nonzero ts t.number h.0) (by_number ts h.1)
    where
      by_test : (b : Bool) → (t.number ≡ 0 → ⊥)
          → cond (eqb (first_refusal ts) 0) accepted (refused (first_refusal ts)) ≡ answered ts accepted refused
          → cond (eqb (cond b t.number (first_refusal ts)) 0) accepted (refused (cond b t.number (first_refusal ts)))
          ≡ cond b (refused t.number) (answered ts accepted refused)
      by_test true nonzero rest = simp (ne_eqb _ _ nonzero)
      by_test false nonzero rest = rest

  out : (ts : List Test) → distinct ts ≡ true → (n : ℕ) → FirstToHold ts n
      → cond (eqb n 0) accepted (refused n) ≡ answered ts accepted refused
  out ts d n h = ap (λ (k : ℕ). cond (eqb k 0) accepted (refused k)) (sym ((first_exactly_when ts d n).1 h)) ∙ by_number ts d

  -- a way out of the tests, by its number: at a numeral the left side is the refused answer, and the accepted one at 0
  pub way_out : (ts : List Test) → distinct ts ≡ true → (n : ℕ)
      → FollowsFrom ts n (cond (eqb n 0) accepted (refused n) ≡ answered ts accepted refused)
  way_out ts d n = follows ts n (out ts d n)

  -- tests after tests
  answered_after : (ts us : List Test) → answered ts (answered us accepted refused) refused ≡ answered (ts ++ us) accepted refused
  answered_after [] us = refl
  answered_after (t ∷ ts) us = ap (λ (a : A). cond t.holds (refused t.number) a) (answered_after ts us)

-- a number that comes after tests is 0 where no test holds and it is 0 itself
pub none_refused : (ts : List Test) → distinct ts ≡ true → (n : ℕ) → answered ts n (λ m. m) ≡ 0 → FirstToHold ts 0 × (n ≡ 0)
none_refused [] d n e = (refl, e)
none_refused (t ∷ ts) d n e =
    let h = both (fresh t.number ts) (distinct ts) d in
    by_test t.holds (fresh_nonzero ts t.number h.0) (none_refused ts h.1 n) e
  where
    by_test : (b : Bool) → (t.number ≡ 0 → ⊥) → (answered ts n (λ m. m) ≡ 0 → FirstToHold ts 0 × (n ≡ 0)) → cond b t.number (answered ts n (λ m. m)) ≡ 0
        → cond (eqb t.number 0) (b ≡ true) ((b ≡ false) × FirstToHold ts 0) × (n ≡ 0)
    by_test true nonzero rest k = absurd (nonzero k)
    by_test false nonzero rest k = let r = rest k in (rw (ne_eqb t.number 0 nonzero) (refl, r.0), r.1)

-- what is taken of an answer after tests is the answer after them that has it taken
pub answered_under : {A B : Type 0} (f : A → B) (accepted : A) (refused : ℕ → A) (ts : List Test)
    → f (answered ts accepted refused) ≡ answered ts (f accepted) (λ n. f (refused n))
answered_under f accepted refused [] = refl
answered_under f accepted refused (t ∷ ts) = by_test t.holds (answered_under f accepted refused ts)
  where
    by_test : (b : Bool) → f (answered ts accepted refused) ≡ answered ts (f accepted) (λ n. f (refused n))
        → f (cond b (refused t.number) (answered ts accepted refused)) ≡ cond b (f (refused t.number)) (answered ts (f accepted) (λ n. f (refused n)))
    by_test true rest = refl
    by_test false rest = rest

-- ---- tests that are judged as one, by a function that gives their number

module _ {A : Type 0} (accepted : A) (refused : ℕ → A) (ts : List Test) (d : distinct ts ≡ true) {n : ℕ} (e : n ≡ first_refusal ts) where
  pub refused_by : (n ≡ 0 → ⊥) → refused n ≡ answered ts accepted refused
  refused_by z = rw e (sym (simp (ne_eqb _ _ (λ k. z (e ∙ k)))) ∙ by_number accepted refused ts d)

  pub accepted_by : n ≡ 0 → accepted ≡ answered ts accepted refused
  accepted_by z = sym (simp (eq-eqb _ _ (sym e ∙ z))) ∙ by_number accepted refused ts d

-- and others after them
module _ {A : Type 0} (accepted : A) (refused : ℕ → A) (ts us : List Test) (d : distinct ts ≡ true) {n : ℕ} (e : n ≡ first_refusal ts) where
  pub refused_before : (n ≡ 0 → ⊥) → refused n ≡ answered (ts ++ us) accepted refused
  refused_before z = refused_by (answered us accepted refused) refused ts d e z ∙ answered_after accepted refused ts us

  pub way_out_after : distinct us ≡ true → n ≡ 0 → (k : ℕ)
      → FollowsFrom us k (cond (eqb k 0) accepted (refused k) ≡ answered (ts ++ us) accepted refused)
  way_out_after f z k =
      follows us k
      (λ h. out accepted refused us f k h ∙ accepted_by (answered us accepted refused) refused ts d e z ∙ answered_after accepted refused ts us)
