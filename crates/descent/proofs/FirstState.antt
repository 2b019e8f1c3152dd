-- An input divided is the f64 nearest to the fraction; so the first state is in the air.
use mathlib.Core.Path.{◌≡◌, refl, sym, ap, subst, ◌∙◌}
use mathlib.Core.Bool.{Bool, true, false, cond, true≢false}
use Prim.Native.Nat.{ℕ, zero, suc, ◌+◌, ◌-◌, ◌*◌, ◌/◌, ◌%◌, ◌^◌, compare, ◌≤◌, ◌<◌}
use native.Mathlib.Nat.{lt_irrefl, mul_assoc, mul_comm, mul_left_comm, mul-one, mul-pos, zero-mul}
use native.Mathlib.Omega.{arith}
use lib.Count.{count_trailing_zeros}
use lib.Dec.{T, ltb, lit<, ltb→lt}
use lib.IntN.{ℤ, pos}
use lib.Ieee.{Float, nan, inf, fin, binary64, prec, emax, low, up, down, minus, nearest, round, of_int, div, lt, le, eq, size, span, climb, units, odd}
use lib.Ieee.Back.{round_whole}
use lib.Ieee.Exact.{HasValue}
use lib.Ieee.Fits.{up_pos, down_pos, round_is}
use lib.Ieee.Order.{round_mono}
use lib.Ieee.Positive.{positive, above, above_of_le}
use lib.Ieee.Scale.{round_same}
use borrow.Author.Tests.{ne_eqb}
use Rattle.arithmetic.specs.Fraction.{◌over◌}
use Rattle.fall.specs.Numbers.{decimal, whole, divided_by}
use Rattle.fall.proofs.FloatLaws.{zero_made, finite_not_below}

cross : (a c x y n d : ℕ) → a * 1 ≡ n * x → c * 1 ≡ d * y → a * y * d ≡ n * (c * x)
cross a c x y n d p q =
    let a_is : a ≡ n * x = sym (mul-one a) ∙ p in
    let c_is : c ≡ d * y = sym (mul-one c) ∙ q in
    rw (a_is, c_is) (simp (mul_assoc, mul_comm, mul_left_comm))

not_zero : (k : ℕ) (g : ℤ) (d : ℕ) → k * up g * 1 ≡ d * down g → 0 < d → k ≡ 0 → ⊥
not_zero zero g d q l z = lt_irrefl 0 (subst (λ (x : ℕ). 0 < x) (sym q ∙ ap (λ (x : ℕ). x * 1) (zero-mul (up g)) ∙ zero-mul 1) (mul-pos l (down_pos g)))
not_zero (suc k) g d q l z = absurd (omega arith)

-- a quotient of two whole numbers, by their values
quotient : (x y : Float) (n d : ℕ) → HasValue x false n 1 → HasValue y false d 1 → 0 < d → div binary64 x y ≡ round binary64 false n d
unfolding div
quotient nan y n d p q l = absurd p
quotient (inf s) y n d p q l = absurd p
quotient (fin true m e) y n d p q l = absurd (true≢false p.0)
quotient (fin false m e) nan n d p q l = absurd q
quotient (fin false m e) (inf s) n d p q l = absurd q
quotient (fin false m e) (fin true k g) n d p q l = absurd (true≢false q.0)
quotient (fin false m e) (fin false k g) n d p q l =
    let z = not_zero k g d q.1 l in
    simp (ne_eqb k 0 z)
    (round_same binary64 false (m * up e * down g) (k * up g * down e) n d (mul-pos (mul-pos (pos_of k z) (up_pos g)) (down_pos e)) l
    (cross (m * up e) (k * up g) (down e) (down g) n d p.1 q.1))
  where
    pos_of : (k : ℕ) → (k ≡ 0 → ⊥) → 0 < k
    pos_of zero z = absurd (z refl)
    pos_of (suc k) z = omega arith

-- "by one division each"
pub division_nearest : (n d : ℕ) → n ≤ 2 ^ 53 → 0 < d → d ≤ 2 ^ 53 → divided_by d n ≡ decimal (n over d)
unfolding divided_by decimal of_int
division_nearest n d h l k =
    quotient (round binary64 false n 1) (round binary64 false d 1) n d (round_whole binary64 false n h) (round_whole binary64 false d k) l

-- ---- a decimal isn't below zero, and is above it where its numerator is

module _ where
  odd_not_below : (d q k l : ℕ) → lt (odd d false q k l) (fin false 0 (pos 0)) ≡ false
  unfolding odd lt
  odd_not_below d zero k l = refl
  odd_not_below d (suc q) k l = let t = count_trailing_zeros d (suc q) in finite_not_below (suc q / 2 ^ t) (minus (k + t) l)

  units_not_below : (q k : ℕ) → lt (units binary64 false q k) (fin false 0 (pos 0)) ≡ false
  unfolding units
  units_not_below q k = by_test (ltb (q * 2 ^ k) (2 ^ (low binary64 + suc (emax binary64))))
    where
      by_test : (t : Bool) → lt (cond t (odd (suc (prec binary64)) false q k (low binary64)) (inf false)) (fin false 0 (pos 0)) ≡ false
      by_test true = odd_not_below (suc (prec binary64)) q k (low binary64)
      by_test false = unfold lt in refl

  pub not_below : (n d : ℕ) → lt (decimal (n over d)) (whole 0) ≡ false
  unfolding decimal
  not_below n d =
      let x = n * 2 ^ low binary64 in
      let k = size (x / d) - prec binary64 in
      let u = d * 2 ^ k in
      ap (lt (decimal (n over d))) zero_made
      ∙ ap (λ (z : Float). lt z (fin false 0 (pos 0))) (round_is binary64 false n d)
      ∙ units_not_below (nearest (x / u) (compare (x % u * 2) u)) k

  beyond_zero : (x : Float) → T (above x) → le x (fin false 0 (pos 0)) ≡ false
  unfolding le lt eq
  beyond_zero nan a = refl
  beyond_zero (inf true) a = absurd a
  beyond_zero (inf false) a = refl
  beyond_zero (fin true m e) a = absurd a
  beyond_zero (fin false m e) a =
      let least : 0 < m * up e * 1 = mul-pos (mul-pos (ltb→lt 0 m a) (up_pos e)) (lit< tt) in
      simp (finite_not_below m e, ne_eqb (m * up e * 1) (0 * 1 * down e) (λ z. absurd (omega (arith, least, z))))

  pub beyond : (n d : ℕ) → 0 < n → 0 < d → d ≤ 100 → le (decimal (n over d)) (whole 0) ≡ false
  unfolding decimal
  beyond n d h l k =
      ap (le (decimal (n over d))) zero_made
      ∙ beyond_zero (decimal (n over d)) (above_of_le (round binary64 false 1 100) _ hundredth (round_mono binary64 1 100 n d (lit< tt) l (omega_le n d h k)))
    where
      hundredth : T (positive (round binary64 false 1 100))
      hundredth = unfold round size span climb units odd count_trailing_zeros in tt

      omega_le : (n d : ℕ) → 0 < n → d ≤ 100 → 1 * d ≤ n * 100
      omega_le n d h k = omega arith
