-- Laws of the first best index by a relation. Where numbers give the relation it is their first maximum, whose laws then hold.
use mathlib.Core.Path.{◌≡◌, refl, sym, ap, ◌∙◌}
use mathlib.Core.Logic.{⊎_elim}
use mathlib.Core.Bool.{Bool, true, false, cond}
use Prim.Native.Nat.{ℕ, zero, suc, ◌+◌, ◌≤◌, ◌<◌}
use native.Mathlib.Nat.{le_refl, le-suc, le_trans}
use native.Mathlib.Numerals.{add-one}
use native.Mathlib.Omega.{arith}
use lib.Dec.{ltb}
use Rattle.arithmetic.specs.SumsAndMaxima.{max_below, first_best}
use Rattle.arithmetic.specs.PrivateFirstMaximum.{first_max_below}
use Rattle.arithmetic.proofs.TestLaws.{lt_or_le, cond_le}
use Rattle.arithmetic.proofs.SumLaws.{first_lt, first_at, le_max}

-- a choice between 0 and 0
none : (t : Bool) → ◌≡◌ {A = ℕ} (cond t 0 0) 0
none true = refl
none false = refl

-- the first maximum has the largest value, also where that is 0
pub first_value : (key : ℕ → ℕ) (n : ℕ) → 0 < n → key (first_max_below key n) ≡ max_below key n
first_value key n h =
    ⊎_elim (λ (l : 0 < max_below key n). first_at key n l)
    (λ (l : max_below key n ≤ 0). omega (arith, le_max key n (first_max_below key n) (first_lt key n h)))
    (lt_or_le 0 (max_below key n))

module _ (beats : ℕ → ℕ → Bool) where
  -- one index more, as the code counts
  pub best_next : (n : ℕ) → first_best beats (n + 1) ≡ cond (beats n (first_best beats n)) n (first_best beats n)
  unfolding first_best
  best_next n = rw (add-one n)

  -- of one index
  pub best_one : first_best beats 1 ≡ 0
  unfolding first_best
  best_one = none (beats 0 0)

  -- the first index beats none before it
  pub best_first : (t : Bool) → cond t 0 (first_best beats 0) ≡ first_best beats 1
  unfolding first_best
  best_first t = none t ∙ sym (none (beats 0 0))

  pub best_le : (n : ℕ) → first_best beats n ≤ n
  unfolding first_best
  best_le zero = le_refl 0
  best_le (suc n) = cond_le (beats n (first_best beats n)) (le-suc n) (le_trans (best_le n) (le-suc n))

  pub best_lt : (n : ℕ) → 0 < n → first_best beats n < n
  unfolding first_best
  best_lt zero h = let no_index : ⊥ = omega arith in absurd no_index
  best_lt (suc n) h = by_test (beats n (first_best beats n))
    where
      by_test : (t : Bool) → cond t n (first_best beats n) < suc n
      by_test true = omega arith
      by_test false = omega (arith, best_le n)

  module _ (key : ℕ → ℕ) where
    -- where a number for each index gives the relation, the first best is the first maximum of the numbers
    pub best_is_first : (n : ℕ) → ((q p : ℕ) → q < n → p < n → beats q p ≡ ltb (key p) (key q)) → first_best beats n ≡ first_max_below key n
    unfolding first_best first_max_below
    best_is_first zero h = refl
    best_is_first (suc zero) h = none (beats 0 0) ∙ sym (none (ltb (max_below key 0) (key 0)))
    best_is_first (suc (suc n)) h =
        let m : ℕ = suc n in
        let before : first_best beats m ≡ first_max_below key m = best_is_first (suc n) (λ q p l k. h q p (omega arith) (omega arith)) in
        let here : first_max_below key m < m = first_lt key m (omega arith) in
        let test : beats m (first_max_below key m) ≡ ltb (max_below key m) (key m) =
        h m (first_max_below key m) (omega arith) (omega arith) ∙ ap (λ (x : ℕ). ltb x (key m)) (first_value key m (omega arith)) in
        ap (λ (x : ℕ). cond (beats m x) m x) before ∙ ap (λ (t : Bool). cond t m (first_max_below key m)) test
