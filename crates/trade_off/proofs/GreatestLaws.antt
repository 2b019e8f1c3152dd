-- The greatest number below n that passes a test.
use mathlib.Core.Path.{◌≡◌, refl, sym, ap, ◌∙◌}
use mathlib.Core.Logic.{⊎_elim, ◌↔◌}
use mathlib.Core.Bool.{Bool, true, false, cond, not, true≢false}
use Prim.Native.Nat.{ℕ, zero, suc, ◌+◌, ◌≤◌, ◌<◌}
use native.Mathlib.Nat.{not-suc-le-zero, eq-or-lt_of_le, le_of_suc-le-suc}
use native.Mathlib.Omega.{arith}
use borrow.Author.Tests.{not-true, not-false}
use Rattle.arithmetic.specs.Conditions.{any_below}
use Rattle.arithmetic.proofs.TestLaws.{any_is, any_none, none_any, any_some}
use Rattle.trade_off.specs.TradeOff.{greatest_below}

-- a test that no number passes fails
pub fails : (t : Bool) → (t ≡ true → ⊥) → t ≡ false
fails true h = absurd (h refl)
fails false h = refl

module _ (p : ℕ → Bool) where
  -- g passes, and every number that does is at most g
  pub record Greatest (n g : ℕ) : Type 0 where
    pub inside : g < n
    pub passes : p g ≡ true
    pub most : (v : ℕ) → v < n → p v ≡ true → v ≤ g

  pub greatest_is : (n g : ℕ) → Greatest n g → greatest_below p n ≡ g
  unfolding greatest_below
  greatest_is zero g h = absurd (not-suc-le-zero h.inside)
  greatest_is (suc n) g h =
      ⊎_elim (λ (e : g ≡ n). rw (← e) (simp h.passes))
      (λ (l : g < n). simp (fails (p n) (λ t. omega (arith, h.most n (omega arith) t, l)))
      (greatest_is n g record { inside = l; passes = h.passes; most = λ v k. h.most v (omega arith) }))
      (eq-or-lt_of_le (le_of_suc-le-suc h.inside))

  greatest_of : (n : ℕ) → any_below p n ≡ true → Greatest n (greatest_below p n)
  unfolding greatest_below
  greatest_of zero e = let r = any_some p zero e in absurd (not-suc-le-zero r.1)
  greatest_of (suc n) e = by_test (p n) refl (greatest_of n)
    where
      by_test : (t : Bool) → p n ≡ t → (any_below p n ≡ true → Greatest n (greatest_below p n)) → Greatest (suc n) (cond t n (greatest_below p n))
      by_test true h rest = record { inside = omega arith; passes = h; most = λ v l k. le_of_suc-le-suc l }
      by_test false h rest =
          let r = any_some p (suc n) e in
          let below : r.0 < n = ⊎_elim (λ (q : r.0 ≡ n). absurd (true≢false (sym r.2 ∙ ap p q ∙ h))) (λ l. l) (eq-or-lt_of_le (le_of_suc-le-suc r.1)) in
          let g = rest (any_is p n r.0 below r.2) in
          record {
            inside = omega (arith, g.inside);
            passes = g.passes;
            most = λ v l k. ⊎_elim (λ (q : v ≡ n). absurd (true≢false (sym k ∙ ap p q ∙ h))) (λ q. g.most v q k) (eq-or-lt_of_le (le_of_suc-le-suc l));
          }

  -- ---- of the numbers up to n: "no such number exists"

  abbrev pub none_to : ℕ → Bool
  none_to n = not (any_below p (n + 1))

  pub none_passes : (n : ℕ) → none_to n ≡ true ↔ ((v : ℕ) → v ≤ n → p v ≡ false)
  none_passes n = (
    λ e v l. any_none p (n + 1) (not-true _ e) v (omega (arith, l)),
    λ h. simp (none_any p (n + 1) (λ v l. h v (omega (arith, l)))) refl,
  )

  pub one_passes : (n v : ℕ) → v ≤ n → p v ≡ true → none_to n ≡ false
  one_passes n v l k = simp (any_is p (n + 1) v (omega (arith, l)) k) refl

  pub greatest_given : (n : ℕ) → none_to n ≡ false → Greatest (n + 1) (greatest_below p (n + 1))
  greatest_given n e = greatest_of (n + 1) (not-false _ e)

  -- where g is the greatest, one passes, and the definition gives g
  pub is_found : (n g : ℕ) → Greatest (n + 1) g → (none_to n ≡ false) × (greatest_below p (n + 1) ≡ g)
  is_found n g h = (one_passes n g (omega (arith, h.inside)) h.passes, greatest_is (n + 1) g h)

  -- where n passes, it is the greatest
  pub end_found : (n : ℕ) → p n ≡ true → greatest_below p (n + 1) ≡ n
  end_found n k = (is_found n n record { inside = omega arith; passes = k; most = λ v l _. omega (arith, l) }).1
