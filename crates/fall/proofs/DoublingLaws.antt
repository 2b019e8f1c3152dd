-- Doubling and halving are exact within a range, so that twice a number over another is the number over the other's half, to the last bit.
use mathlib.Core.Path.{◌≡◌, refl, sym, ap, subst, ◌∙◌}
use mathlib.Core.Bool.{Bool, true, false, cond, ◌&&◌, true≢false}
use Prim.Native.Nat.{ℕ, zero, suc, ◌+◌, ◌-◌, ◌*◌, ◌%◌, ◌^◌, ◌≤◌, ◌<◌}
use native.Mathlib.Nat.{le_trans, le_of_eq, lt_of_lt_of_le, lt_of_le_of_lt, lt_of_not-le, le_of_suc-le-suc, not-le_of_lt, lt_irrefl, zero-lt-suc, zero-mul, eq-zero-or-pos, mul-one, one-mul, mul_comm, mul_assoc, mul_left_comm, mul_right_comm, mul-pos, mul-le-mul_left, mul-le-mul_right, mul-lt-mul_of_pos_right, le_of_mul-le-mul_right, lt_of_mul-lt-mul_right, pow-suc, sub-add_cancel}
use native.Mathlib.Omega.{arith}
use lib.Dec.{T, eqb, ltb, leb, eqb-suc-zero, ltb→lt, leb→le, lt→ltb}
use lib.IntN.{ℤ, pos, negsuc}
use lib.Pow.{pow-add, pow-lt, pow_pos, pow_mono, shl_lt}
use mathlib.Core.Logic.{inl, inr}
use lib.Ieee.{Float, nan, inf, fin, Format, prec, emax, low, up, down, fits, round, units, odd, add, mul, div, sum, le}
use lib.Ieee.Fits.{up_pos, down_pos, two, two-le_pos, and_l, and_r, round_is}
use lib.Ieee.Exact.{HasValue, odd_sign, round_exact}
use lib.Ieee.Order.{round_mono}
use lib.Ieee.Scale.{round_same}
use lib.Ieee.Positive.{num, den, positive, den_pos, own_value, mul_at, first_pos, positive_of_value, above_of_le, values_of_le}

-- ---- a finite number above zero in units of its format's smallest one: digits × 2 ^ place of them
record Units (f : Format) (x : Float) : Type 0 where
  digits : ℕ
  place : ℕ
  few : digits < 2 ^ prec f
  is : num x * 2 ^ low f ≡ digits * 2 ^ place * den x
  below : digits * 2 ^ place < 2 ^ (low f + suc (emax f))

-- a / c with c > 0 is below 2 ^ k, and so is its number of units below 2 ^ k units
units_below : (f : Format) (a c u k : ℕ) → 0 < c → a * 2 ^ low f ≡ u * c → a < 2 ^ k * c → u < 2 ^ (low f + k)
units_below f a c u k C e h =
    lt_of_mul-lt-mul_right c
    (lt_of_le_of_lt (le_of_eq (sym e))
    (lt_of_lt_of_le (mul-lt-mul_of_pos_right h (pow_pos (low f)))
    (le_of_eq (mul_right_comm (2 ^ k) c (2 ^ low f) ∙ ap (λ (z : ℕ). z * c) (mul_comm (2 ^ k) (2 ^ low f) ∙ sym (pow-add 2 (low f) k))))))

pow_back : {i j : ℕ} → 2 ^ i ≤ 2 ^ j → i ≤ j
pow_back {i} {j} h = le_of_suc-le-suc (lt_of_not-le (λ (l : j < i). not-le_of_lt (pow-lt l) h))

-- what it says of a number that its format holds it
held : (f : Format) (m : ℕ) (e : ℤ) → T (fits f (fin false (suc m) e)) → (suc m < 2 ^ prec f) × (down e ≤ 2 ^ low f) × (suc m * up e < 2 ^ suc (emax f) * down e)
unfolding fits
held f m e h =
    let a = eqb (suc m % 2) 1 in
    let b = ltb (suc m) (2 ^ prec f) in
    let c = leb (down e) (2 ^ low f) in
    let d = ltb (suc m * up e) (2 ^ suc (emax f) * down e) in
    let abc = and_l (a && b && c) d h in
    (ltb→lt (suc m) (2 ^ prec f) (and_r a b (and_l (a && b) c abc)), leb→le (down e) (2 ^ low f) (and_r (a && b) c abc), ltb→lt (suc m * up e) (2 ^ suc (emax f) * down e) (and_r (a && b && c) d h))

units_of : (f : Format) (x : Float) → T (positive x) → T (fits f x) → Units f x
units_of f nan p h = absurd p
units_of f (inf s) p h = absurd p
units_of f (fin true m e) p h = absurd p
units_of f (fin false zero e) p h = absurd p
units_of f (fin false (suc m) (pos k)) p h =
    let is : suc m * 2 ^ k * 2 ^ low f ≡ suc m * 2 ^ (k + low f) * 1 = simp (pow-add, mul_assoc, mul-one) in
    let it = held f m (pos k) h in
    record {
      digits = suc m;
      place = k + low f;
      few = it.0;
      is = is;
      below = units_below f (suc m * 2 ^ k) 1 (suc m * 2 ^ (k + low f)) (suc (emax f)) (zero-lt-suc 0) is it.2;
    }
units_of f (fin false (suc m) (negsuc k)) p h =
    let it = held f m (negsuc k) h in
    let fine : suc k ≤ low f = pow_back it.1 in
    let is : suc m * 1 * 2 ^ low f ≡ suc m * 2 ^ (low f - suc k) * 2 ^ suc k =
    ap (λ (z : ℕ). z * 2 ^ low f) (mul-one (suc m))
    ∙ ap (λ (z : ℕ). suc m * 2 ^ z) (sym (sub-add_cancel fine))
    ∙ ap (λ (z : ℕ). suc m * z) (pow-add 2 (low f - suc k) (suc k))
    ∙ sym (mul_assoc (suc m) (2 ^ (low f - suc k)) (2 ^ suc k)) in
    record {
      digits = suc m;
      place = low f - suc k;
      few = it.0;
      is = is;
      below = units_below f (suc m * 1) (2 ^ suc k) (suc m * 2 ^ (low f - suc k)) (suc (emax f)) (pow_pos (suc k)) is it.2;
    }

-- ---- sum and quotient of two numbers, by their fractions
added : (f : Format) (x : Float) → T (positive x) → add f x x ≡ round f false (num x * 2) (den x)
unfolding add sum
added f nan p = absurd p
added f (inf s) p = absurd p
added f (fin true m e) p = absurd p
added f (fin false m e) p =
    round_same f false (m * up e * down e + m * up e * down e) (down e * down e) (m * up e * 2) (down e) (mul-pos (down_pos e) (down_pos e)) (down_pos e)
    (twice (m * up e) (down e))
  where
    twice : (a c : ℕ) → (a * c + a * c) * c ≡ a * 2 * (c * c)
    twice a c =
        let double : a * c + a * c ≡ a * c * 2 = omega arith in
        ap (λ (z : ℕ). z * c) double ∙ simp (mul_assoc, mul_comm, mul_left_comm)

divided : (f : Format) (x y : Float) (a c b d : ℕ) → 0 < c → 0 < b → HasValue x false a c → HasValue y false b d → 0 < d → div f x y ≡ round f false (a * d) (b * c)
unfolding div
divided f nan y a c b d C B h g D = absurd h
divided f (inf s) y a c b d C B h g D = absurd h
divided f (fin s m e) nan a c b d C B h g D = absurd g
divided f (fin s m e) (inf t) a c b d C B h g D = absurd g
divided f (fin true m e) (fin t n k) a c b d C B h g D = absurd (true≢false h.0)
divided f (fin false m e) (fin true n k) a c b d C B h g D = absurd (true≢false g.0)
divided f (fin false m e) (fin false zero k) a c b d C B h g D =
    absurd (lt_irrefl 0 (subst (λ (z : ℕ). 0 < z) (sym g.1 ∙ ap (λ (z : ℕ). z * d) (zero-mul (up k)) ∙ zero-mul d) (mul-pos B (down_pos k))))
divided f (fin false m e) (fin false (suc n) k) a c b d C B h g D =
    rw (eqb-suc-zero n)
    (round_same f false (m * up e * down k) (suc n * up k * down e) (a * d) (b * c) (mul-pos (mul-pos (zero-lt-suc n) (up_pos k)) (down_pos e)) (mul-pos B C)
    (simp (mul_assoc, mul_comm, mul_left_comm)
    (simp (mul_assoc, mul_comm, mul_left_comm) at (ap (λ (z : ℕ). z * (b * down k)) h.1 ∙ ap (λ (z : ℕ). a * down e * z) (sym g.1)))))

-- ---- half of a number is exact where its last place has a half, and the double where it is below the format's end
module _ (f : Format) (x : Float) (p : T (positive x)) (u : Units f x) where
  halved : 0 < u.place → HasValue (mul f x (fin false 1 (negsuc 0))) false (num x) (den x * 2)
  halved h =
      let D = mul-pos (den_pos x) (zero-lt-suc 1) in
      let j = u.place - 1 in
      let one_less : suc j ≡ u.place = omega arith in
      let is : num x * 2 ^ low f ≡ u.digits * 2 ^ j * (den x * 2) =
      u.is
      ∙ ap (λ (z : ℕ). u.digits * 2 ^ z * den x) (sym one_less)
      ∙ ap (λ (z : ℕ). u.digits * z * den x) (pow-suc 2 j)
      ∙ simp (mul_assoc, mul_comm, mul_left_comm) in
      subst (λ (z : Float). HasValue z false (num x) (den x * 2))
      (sym (mul_at f x (fin false 1 (negsuc 0)) (num x) (den x) 1 2 p tt (den_pos x) (zero-lt-suc 1) (own_value x p) (refl, refl) ∙ ap (λ (z : ℕ). round f false z (den x * 2)) (mul-one (num x))))
      (round_exact f false (num x) (den x * 2) u.digits j D u.few (lt_of_le_of_lt (mul-le-mul_left u.digits (pow_mono (omega arith))) u.below) is)

  doubled : num x * 2 < 2 ^ suc (emax f) * den x → HasValue (add f x x) false (num x * 2) (den x)
  doubled h =
      let is : num x * 2 * 2 ^ low f ≡ u.digits * 2 ^ suc u.place * den x =
      mul_right_comm (num x) 2 (2 ^ low f)
      ∙ ap (λ (z : ℕ). z * 2) u.is
      ∙ sym (ap (λ (z : ℕ). u.digits * z * den x) (pow-suc 2 u.place) ∙ simp (mul_assoc, mul_comm, mul_left_comm)) in
      subst (λ (z : Float). HasValue z false (num x * 2) (den x))
      (sym (added f x p))
      (round_exact f false (num x * 2) (den x) u.digits (suc u.place) (den_pos x) u.few (units_below f (num x * 2) (den x) (u.digits * 2 ^ suc u.place) (suc (emax f)) (den_pos x) is h) is)

-- ---- bounds that rounding keeps

-- 2 ^ -n at least, an infinity included
abbrev pub AtLeast : ℕ → Float → Type 0
AtLeast n nan = ⊥
AtLeast n (inf true) = ⊥
AtLeast n (inf false) = Unit
AtLeast n (fin true m e) = ⊥
AtLeast n (fin false m e) = down e ≤ m * up e * 2 ^ n

abbrev NotNegative : Float → Type 0
NotNegative nan = ⊥
NotNegative (inf true) = ⊥
NotNegative (inf false) = Unit
NotNegative (fin true m e) = ⊥
NotNegative (fin false m e) = Unit

pub at_least_positive : (n m : ℕ) (e : ℤ) → AtLeast n (fin false m e) → T (positive (fin false m e))
at_least_positive n m e h = lt→ltb 0 m (first_pos m (up e) (first_pos (m * up e) (2 ^ n) (lt_of_lt_of_le (down_pos e) h)))

value_at_least : (n : ℕ) (x : Float) (a c : ℕ) → 0 < c → HasValue x false a c → c ≤ a * 2 ^ n → AtLeast n x
value_at_least n nan a c C h l = absurd h
value_at_least n (inf s) a c C h l = absurd h
value_at_least n (fin true m e) a c C h l = absurd (true≢false h.0)
value_at_least n (fin false m e) a c C h l =
    le_of_mul-le-mul_right
    (le_trans (mul-le-mul_left (down e) l)
    (le_of_eq (sym (mul_assoc (down e) a (2 ^ n)) ∙ ap (λ (z : ℕ). z * 2 ^ n) (mul_comm (down e) a ∙ sym h.1) ∙ mul_right_comm (m * up e) c (2 ^ n))))
    C

value_not_negative : (x : Float) (s : Bool) (a c : ℕ) → s ≡ false → HasValue x s a c → NotNegative x
value_not_negative nan s a c e h = absurd h
value_not_negative (inf t) s a c e h = absurd h
value_not_negative (fin true m k) s a c e h = absurd (true≢false (h.0 ∙ e))
value_not_negative (fin false m k) s a c e h = tt

units_not_negative : (f : Format) (q k : ℕ) → NotNegative (units f false q k)
unfolding units
units_not_negative f q k = either (ltb (q * 2 ^ k) (2 ^ (low f + suc (emax f))))
  where
    either : (b : Bool) → NotNegative (cond b (odd (suc (prec f)) false q k (low f)) (inf false))
    either true = value_not_negative (odd (suc (prec f)) false q k (low f)) false (q * 2 ^ k) (2 ^ low f) refl (odd_sign (suc (prec f)) false q k (low f))
    either false = tt

round_not_negative : (f : Format) (a c : ℕ) → NotNegative (round f false a c)
round_not_negative f a c = subst NotNegative (sym (round_is f false a c)) (units_not_negative f _ _)

power : (f : Format) (n : ℕ) → n ≤ low f → HasValue (round f false 1 (2 ^ n)) false 1 (2 ^ n)
power f n h =
    let is : 2 ^ low f ≡ 2 ^ (low f - n) * 2 ^ n = ap (λ (z : ℕ). 2 ^ z) (sym (sub-add_cancel h)) ∙ pow-add 2 (low f - n) n in
    round_exact f false 1 (2 ^ n) 1 (low f - n) (pow_pos n) (pow-lt (two-le_pos (prec f) (two f)))
    (lt_of_le_of_lt (le_of_eq (one-mul (2 ^ (low f - n)))) (pow-lt (omega arith)))
    (one-mul (2 ^ low f) ∙ is ∙ ap (λ (z : ℕ). z * 2 ^ n) (sym (one-mul (2 ^ (low f - n)))))

round_at_least : (f : Format) (n a c : ℕ) → n ≤ low f → 0 < c → c ≤ a * 2 ^ n → AtLeast n (round f false a c)
round_at_least f n a c N C h =
    by_shape (round f false a c) (round_mono f 1 (2 ^ n) a c (pow_pos n) C (le_trans (le_of_eq (one-mul c)) h))
  where
    least : T (positive (round f false 1 (2 ^ n)))
    least = positive_of_value (round f false 1 (2 ^ n)) 1 (2 ^ n) (power f n N) (zero-lt-suc 0)

    by_shape : (x : Float) → T (le (round f false 1 (2 ^ n)) x) → AtLeast n x
    by_shape nan l = absurd (above_of_le (round f false 1 (2 ^ n)) nan least l)
    by_shape (inf true) l = absurd (above_of_le (round f false 1 (2 ^ n)) (inf true) least l)
    by_shape (inf false) l = tt
    by_shape (fin true m e) l = absurd (above_of_le (round f false 1 (2 ^ n)) (fin true m e) least l)
    by_shape (fin false m e) l =
        let p = above_of_le (round f false 1 (2 ^ n)) (fin false m e) least l in
        le_trans (le_of_eq (sym (one-mul (down e)))) (values_of_le (round f false 1 (2 ^ n)) (fin false m e) 1 (2 ^ n) (m * up e) (down e) least p (power f n N) (refl, refl) l)

pub add_at_least : (f : Format) (n : ℕ) (x y : Float) → n ≤ low f → AtLeast n x → NotNegative y → AtLeast n (add f x y)
unfolding add sum
add_at_least f n nan y N h g = absurd h
add_at_least f n (inf true) y N h g = absurd h
add_at_least f n (fin true m e) y N h g = absurd h
add_at_least f n (inf false) nan N h g = absurd g
add_at_least f n (inf false) (inf true) N h g = absurd g
add_at_least f n (inf false) (inf false) N h g = tt
add_at_least f n (inf false) (fin t k d) N h g = tt
add_at_least f n (fin false m e) nan N h g = absurd g
add_at_least f n (fin false m e) (inf true) N h g = absurd g
add_at_least f n (fin false m e) (inf false) N h g = tt
add_at_least f n (fin false m e) (fin true k d) N h g = absurd g
add_at_least f n (fin false m e) (fin false k d) N h g =
    round_at_least f n (m * up e * down d + k * up d * down e) (down e * down d) N (mul-pos (down_pos e) (down_pos d))
    (le_trans (mul-le-mul_right (down d) h)
    (le_trans (le_of_eq (mul_right_comm (m * up e) (2 ^ n) (down d))) (mul-le-mul_right (2 ^ n) (omega arith))))

-- ---- numbers that are 2 ^ -n at least, where n leaves room for all their digits
over_endless : (f : Format) (x : Float) (a c : ℕ) → HasValue x false a c → div f x (inf false) ≡ fin false 0 (pos 0)
unfolding div
over_endless f nan a c h = absurd h
over_endless f (inf s) a c h = absurd h
over_endless f (fin true m e) a c h = absurd (true≢false h.0)
over_endless f (fin false m e) a c h = refl

pub quotient_not_negative : (f : Format) (n : ℕ) (x : Float) (a c : ℕ) → 0 < c → HasValue x false a c → (t : Float) → AtLeast n t → NotNegative (div f x t)
quotient_not_negative f n x a c C v nan h = absurd h
quotient_not_negative f n x a c C v (inf true) h = absurd h
quotient_not_negative f n x a c C v (inf false) h = subst NotNegative (sym (over_endless f x a c v)) tt
quotient_not_negative f n x a c C v (fin true m e) h = absurd h
quotient_not_negative f n x a c C v (fin false m e) h =
    let above = first_pos (m * up e) (2 ^ n) (lt_of_lt_of_le (down_pos e) h) in
    subst NotNegative (sym (divided f x (fin false m e) a c (m * up e) (down e) C above v (refl, refl) (down_pos e))) (round_not_negative f (a * down e) (m * up e * c))

module _ (f : Format) (n : ℕ) (room : n + prec f ≤ low f) where
  place_above_zero : (x : Float) (u : Units f x) → den x ≤ num x * 2 ^ n → 0 < u.place
  place_above_zero x u h =
      let far : 2 ^ low f ≤ u.digits * 2 ^ u.place * 2 ^ n =
      le_of_mul-le-mul_right
      (le_trans (le_of_eq (mul_comm (2 ^ low f) (den x)))
      (le_trans (mul-le-mul_right (2 ^ low f) h)
      (le_of_eq (mul_right_comm (num x) (2 ^ n) (2 ^ low f) ∙ ap (λ (z : ℕ). z * 2 ^ n) u.is ∙ mul_right_comm (u.digits * 2 ^ u.place) (den x) (2 ^ n)))))
      (den_pos x) in
      elim (eq-zero-or-pos u.place) [
        | inl z ↦
            let near : u.digits * 2 ^ u.place * 2 ^ n < 2 ^ low f =
            lt_of_le_of_lt (le_of_eq (ap (λ (k : ℕ). u.digits * 2 ^ k * 2 ^ n) z ∙ ap (λ (k : ℕ). k * 2 ^ n) (mul-one u.digits)))
            (lt_of_lt_of_le (shl_lt (prec f) n u.few) (pow_mono (omega arith))) in
            absurd (not-le_of_lt near far)
        | inr p ↦ p
      ]

  half_value : (m : ℕ) (e : ℤ) → T (fits f (fin false m e)) → AtLeast n (fin false m e) → HasValue (mul f (fin false m e) (fin false 1 (negsuc 0))) false (m * up e) (down e * 2)
  half_value m e g h =
      let x = fin false m e in
      let p = at_least_positive n m e h in
      let u = units_of f x p g in
      halved f x p u (place_above_zero x u h)

  pub half_at_least : (t : Float) → T (fits f t) → AtLeast n t → AtLeast (suc n) (mul f t (fin false 1 (negsuc 0)))
  unfolding mul
  half_at_least nan g h = absurd h
  half_at_least (inf true) g h = absurd h
  half_at_least (inf false) g h = tt
  half_at_least (fin true m e) g h = absurd h
  half_at_least (fin false m e) g h =
      value_at_least (suc n) (mul f (fin false m e) (fin false 1 (negsuc 0))) (m * up e) (down e * 2) (mul-pos (down_pos e) (zero-lt-suc 1)) (half_value m e g h)
      (le_trans (mul-le-mul_right 2 h) (le_of_eq (mul_assoc (m * up e) (2 ^ n) 2 ∙ ap (λ (z : ℕ). m * up e * z) (sym (pow-suc 2 n)))))

  module _ (x : Float) (p : T (positive x)) (x_Fits : T (fits f x)) (small : num x * 2 < 2 ^ suc (emax f) * den x) where
    pub twice : HasValue (add f x x) false (num x * 2) (den x)
    twice = doubled f x p (units_of f x p x_Fits) small

    pub quotient : (t : Float) → T (fits f t) → AtLeast n t → div f (add f x x) t ≡ div f x (mul f t (fin false 1 (negsuc 0)))
    unfolding mul
    quotient nan g h = absurd h
    quotient (inf true) g h = absurd h
    quotient (inf false) g h = over_endless f (add f x x) _ _ twice ∙ sym (over_endless f x _ _ (own_value x p))
    quotient (fin true m e) g h = absurd h
    quotient (fin false m e) g h =
        let t = fin false m e in
        let above = first_pos (m * up e) (2 ^ n) (lt_of_lt_of_le (down_pos e) h) in
        divided f (add f x x) t (num x * 2) (den x) (m * up e) (down e) (den_pos x) above twice (refl, refl) (down_pos e)
        ∙ ap (λ (z : ℕ). round f false z (m * up e * den x)) (mul_assoc (num x) 2 (down e) ∙ ap (λ (z : ℕ). num x * z) (mul_comm 2 (down e)))
        ∙ sym (divided f x (mul f t (fin false 1 (negsuc 0))) (num x) (den x) (m * up e) (down e * 2) (den_pos x) above (own_value x p) (half_value m e g h) (mul-pos (down_pos e) (zero-lt-suc 1)))
