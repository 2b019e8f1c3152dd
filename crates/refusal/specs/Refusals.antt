-- Refusals: a list of tests, each with the number of its refusal. "In each list of refusals, here and in later requests, the order written is the order
-- tested".
use Rattle.std.specs.Prelude.{◌≡◌, ◌⊎◌, ◌↔◌, Bool, true, false, cond, not, ◌&&◌, List, [], ◌∷◌, map, ℕ, eqb}

pub record Test : Type 0 where
  pub number : ℕ
  pub holds : Bool

abbrev pub ◌when◌ : ℕ → Bool → Test
n when t = record { number = n; holds = t }

infix 68 ◌when◌
-- the number of the first test that holds, 0 where none does
abbrev pub first_refusal : List Test → ℕ
first_refusal [] = 0
first_refusal (t ∷ ts) = cond t.holds t.number (first_refusal ts)

-- the answer: refused with the number of the first test that holds, accepted where none does
abbrev pub answered : {A : Type 0} → List Test → A → (ℕ → A) → A
answered [] accepted refused = accepted
answered (t ∷ ts) accepted refused = cond t.holds (refused t.number) (answered ts accepted refused)

abbrev pub numbers : List Test → List ℕ
numbers ts = map (λ (t : Test). t.number) ts

-- n is a number of the list
abbrev pub OneOf : ℕ → List ℕ → Type 0
OneOf n [] = ⊥
OneOf n (k ∷ ks) = (n ≡ k) ⊎ OneOf n ks

-- n's test is the first that holds; for 0, none holds
abbrev pub FirstToHold : List Test → ℕ → Type 0
FirstToHold [] n = n ≡ 0
FirstToHold (t ∷ ts) n = cond (eqb t.number n) (t.holds ≡ true) ((t.holds ≡ false) × FirstToHold ts n)

-- n isn't 0, and no test has it
abbrev pub fresh : ℕ → List Test → Bool
fresh n [] = not (eqb n 0)
fresh n (t ∷ ts) = not (eqb t.number n) && fresh n ts

-- no number is 0, and no two are equal: so the tests of each list of refusals
abbrev pub distinct : List Test → Bool
distinct [] = true
distinct (t ∷ ts) = fresh t.number ts && distinct ts

-- what is promised of an answer after tests with such numbers
pub record AnswerPromise {A : Type 0} (refusal : A → ℕ) (ts : List Test) (accepted : A) (refused : ℕ → A) (a : A) : Type 0 where
  -- "A refusal comes when its condition holds and at no other time."
  pub exactly_when : (n : ℕ) → refusal a ≡ n ↔ FirstToHold ts n
  pub listed : OneOf (refusal a) (0 ∷ numbers ts)
  pub if_accepted : refusal a ≡ 0 → a ≡ accepted
  pub if_refused : (refusal a ≡ 0 → ⊥) → a ≡ refused (refusal a)
