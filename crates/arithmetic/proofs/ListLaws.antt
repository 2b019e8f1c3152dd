-- Laws of lists made by a rule, of tests at every index and of lists joined in a row.
use mathlib.Core.Path.{◌≡◌, refl, ◌∙◌}
use mathlib.Core.Bool.{Bool, true, ◌&&◌}
use mathlib.Core.Logic.{⊎_elim}
use mathlib.Core.List.{List, [], ◌∷◌, ◌++◌}
use Prim.Native.Nat.{ℕ, zero, suc, ◌+◌, ◌*◌, ◌<◌, ◌≤◌}
use native.Mathlib.Numerals.{add-one}
use native.Mathlib.Omega.{arith}
use lib.ListN.{length, get_or, length-append, get_or-append}
use lib.Seq.{get_or_at}
use Rattle.arithmetic.specs.Lists.{tabulate, every, joined}
use Rattle.arithmetic.proofs.TestLaws.{lt_or_le, both}

-- a list made by a rule

pub length_tabulate : (f : ℕ → ℕ) (n : ℕ) → length (tabulate f n) ≡ n
unfolding tabulate
length_tabulate f zero = refl
length_tabulate f (suc n) = simp (length-append, length_tabulate f n) (omega arith)

pub tabulate_at : (f : ℕ → ℕ) (n i : ℕ) → i < n → get_or (tabulate f n) i 0 ≡ f i
unfolding tabulate
tabulate_at f zero i h = absurd (omega arith)
tabulate_at f (suc n) i h = ⊎_elim (λ (l : i < n). early l (tabulate_at f n i l)) last (lt_or_le i n)
  where
    early : i < n → get_or (tabulate f n) i 0 ≡ f i → get_or (tabulate f n ++ (f n ∷ [])) i 0 ≡ f i
    early l e = get_or-append (tabulate f n) (f n ∷ []) 0 i (omega (arith, length_tabulate f n)) ∙ e

    last : n ≤ i → get_or (tabulate f n ++ (f n ∷ [])) i 0 ≡ f i
    last g = let same : i ≡ n = omega arith in rw same (get_or_at (tabulate f n) (f n) [] 0 n (length_tabulate f n))

-- two rules that agree make one list
pub tabulate_same : (f g : ℕ → ℕ) (n : ℕ) → ((i : ℕ) → i < n → f i ≡ g i) → tabulate f n ≡ tabulate g n
unfolding tabulate
tabulate_same f g zero h = refl
tabulate_same f g (suc n) h = rw (tabulate_same f g n (λ i l. h i (omega arith)), h n (omega arith))

-- a test at every index

pub every_one : (t : ℕ → Bool) (n : ℕ) → every t (n + 1) ≡ every t n && t n
unfolding every
every_one t n = rw add-one

pub every_at : (t : ℕ → Bool) (n : ℕ) → every t n ≡ true → (i : ℕ) → i < n → t i ≡ true
unfolding every
every_at t zero e i h = absurd (omega arith)
every_at t (suc n) e i h =
    let p = both (every t n) (t n) e in
    ⊎_elim (λ (l : i < n). every_at t n p.0 i l) (λ (g : n ≤ i). let same : i ≡ n = omega arith in rw same p.1) (lt_or_le i n)

pub every_all : (t : ℕ → Bool) (n : ℕ) → ((i : ℕ) → i < n → t i ≡ true) → every t n ≡ true
unfolding every
every_all t zero p = refl
every_all t (suc n) p = rw (every_all t n (λ i l. p i (omega arith)), p n (omega arith))

-- lists of one width, one after the other
pub length_joined : (f : ℕ → List ℕ) (w : ℕ) → ((i : ℕ) → length (f i) ≡ w) → (n : ℕ) → length (joined f n) ≡ w * n
unfolding joined
length_joined f w wide zero = omega arith
length_joined f w wide (suc n) = simp (length-append, length_joined f w wide n, wide n) (omega arith)
