-- A table whose entries grow: each of the first n is at most the next.
use mathlib.Core.Path.{◌≡◌, subst}
use mathlib.Core.Bool.{true}
use mathlib.Core.Logic.{⊎_elim}
use Prim.Native.Nat.{ℕ, zero, suc, ◌+◌, ◌≤◌, ◌<◌}
use native.Mathlib.Nat.{le_refl, le_trans, eq-or-lt_of_le, le_of_suc-le-suc}
use native.Mathlib.Numerals.{add-one}
use native.Mathlib.Omega.{arith}
use lib.Dec.{leb}
use borrow.Author.Tests.{leb-true}
use Rattle.arithmetic.proofs.TestLaws.{all_below, all_below_lem}

module _ (at : ℕ → ℕ) (n : ℕ) (tested : all_below (λ i. leb (at i) (at (i + 1))) n ≡ true) where
  next : (k : ℕ) → k < n → at k ≤ at (suc k)
  next k l = rw (add-one k) at (leb-true (at k) (at (k + 1)) (all_below_lem (λ (i : ℕ). leb (at i) (at (i + 1))) n tested k l))

  pub entries_grow : (i k : ℕ) → i ≤ k → k < n + 1 → at i ≤ at k
  entries_grow i zero h l = let e : i ≡ 0 = omega arith in rw e (le_refl _)
  entries_grow i (suc k) h l =
      ⊎_elim
      (λ (e : i ≡ suc k). subst (λ (j : ℕ). at i ≤ at j) e (le_refl _))
      (λ (q : i < suc k). le_trans (entries_grow i k (le_of_suc-le-suc q) (omega arith)) (next k (omega arith)))
      (eq-or-lt_of_le h)
