-- Rounds that keep twice their guess make the same guesses, to the last bit, where sum and first guess are in range.
use mathlib.Core.Path.{◌≡◌, refl, sym, ap, subst, ◌∙◌}
use mathlib.Core.Bool.{Bool, true, false, ◌&&◌, false≢true}
use mathlib.Core.List.{List, [], ◌∷◌}
use Prim.Native.Nat.{ℕ, zero, suc, ◌+◌, ◌*◌, ◌^◌, ◌≤◌, ◌<◌}
use native.Mathlib.Nat.{lt_irrefl, mul-pos, zero-mul, lt_of_lt_of_le, mul-le-mul_right}
use native.Mathlib.Omega.{arith}
use lib.Count.{count_trailing_zeros}
use lib.Dec.{T, eqb, lit<, lit≤, eqb-suc-zero, lt→ltb}
use lib.Lanes.{zip2}
use lib.ListN.{length}
use lib.IntN.{ℤ, pos, negsuc}
use lib.Ieee.{Float, nan, inf, fin, binary64, fits, eq, lt, sum, add, mul, div, up, down, of_int, round, size, span, climb, units, odd}
use lib.Ieee.Exact.{HasValue, round_exact}
use lib.Ieee.Fits.{down_pos, add-fits}
use lib.Ieee.Positive.{num, den, positive, den_pos, own_value, first_pos}
use borrow.Author.Tests.{eqb-true, ltb-true}
use Rattle.arithmetic.specs.Fraction.{◌over◌}
use Rattle.arithmetic.proofs.TestLaws.{both}
use Rattle.fall.specs.Numbers.{decimal, whole}
use Rattle.fall.specs.Step.{squares, first_guess, half, next_guess, after_rounds, speed_of}
use Rattle.fall.specs.declared.Fall.{Fall}
use Rattle.fall.specs.TwoSteps.{in_range}
use Rattle.fall.specs.PrivateRounds.{next_twice, Doubles}
use Rattle.fall.proofs.FloatLaws.{zero_only, is_zero, zero_made, speed_by_rounds}
use Rattle.fall.proofs.DoublingLaws.{AtLeast, at_least_positive, add_at_least, half_at_least, quotient, quotient_not_negative, twice}

half_made : half ≡ fin false 1 (negsuc 0)
unfolding decimal round size span climb units odd count_trailing_zeros
half_made = refl

thousandth_made : decimal (1 over 1000) ≡ fin false 1152921504606847 (negsuc 59)
unfolding decimal round size span climb units odd count_trailing_zeros
thousandth_made = refl

billion_made : whole 1000000000 ≡ fin false 1953125 (pos 9)
unfolding of_int round size span climb units odd count_trailing_zeros
billion_made = refl

-- ---- what the range gives
first_bound : (x : Float) → lt (decimal (1 over 1000)) x ≡ true → AtLeast 10 x
unfolding lt
first_bound x l = made x (ap (λ (y : Float). lt y x) (sym thousandth_made) ∙ l)
  where
    made : (x : Float) → lt (fin false 1152921504606847 (negsuc 59)) x ≡ true → AtLeast 10 x
    made nan l = absurd (false≢true l)
    made (inf true) l = absurd (false≢true l)
    made (inf false) l = tt
    made (fin true m e) l = absurd (false≢true l)
    made (fin false m e) l = omega (arith, ltb-true (1152921504606847 * 1 * down e) (m * up e * 2 ^ 60) l)

sum_bound : (x : Float) → lt (whole 0) x ≡ true → lt x (whole 1000000000) ≡ true → T (positive x) × (num x * 2 < 2 ^ 1024 * den x)
unfolding lt
sum_bound x l g = made x (ap (λ (y : Float). lt y x) (sym zero_made) ∙ l) (ap (lt x) (sym billion_made) ∙ g)
  where
    made : (x : Float) → lt (fin false 0 (pos 0)) x ≡ true → lt x (fin false 1953125 (pos 9)) ≡ true → T (positive x) × (num x * 2 < 2 ^ 1024 * den x)
    made nan l g = absurd (false≢true l)
    made (inf true) l g = absurd (false≢true l)
    made (inf false) l g = absurd (false≢true g)
    made (fin true m e) l g = absurd (false≢true l)
    made (fin false m e) l g =
        let above : 0 < m * up e = omega (arith, ltb-true (0 * 1 * down e) (m * up e * 1) l) in
        let below : m * up e * 2 < 2000000000 * down e = omega (arith, ltb-true (m * up e * 1) (1953125 * 2 ^ 9 * down e) g) in
        (lt→ltb 0 m (first_pos m (up e) above), lt_of_lt_of_le below (mul-le-mul_right (down e) (lit≤ tt)))

at_least_not_zero : (n : ℕ) (x : Float) → AtLeast n x → is_zero x ≡ false
at_least_not_zero n nan h = absurd h
at_least_not_zero n (inf s) h = refl
at_least_not_zero n (fin true m e) h = absurd h
at_least_not_zero n (fin false zero e) h = absurd (at_least_positive n 0 e h)
at_least_not_zero n (fin false (suc m) e) h = eqb-suc-zero m

-- ---- the rounds

-- t is twice the guess, and far from the smallest numbers
record Twice (n : ℕ) (guess t : Float) : Type 0 where
  is : guess ≡ mul binary64 t half
  least : AtLeast n t
  t_fits : T (fits binary64 t)

module _ (sum first : Float) (doubles : Doubles sum first) where
  sum_known : T (positive sum) × (num sum * 2 < 2 ^ 1024 * den sum)
  sum_known = let s = both _ _ (both _ _ doubles.range).0 in sum_bound sum s.0 s.1

  first_known : AtLeast 10 first
  first_known = first_bound first (both (lt (whole 0) sum && lt sum (whole 1000000000)) (lt (decimal (1 over 1000)) first) doubles.range).1

  first_round : {one : Float} → one ≡ add binary64 first (div binary64 sum first) → Twice 10 (next_guess sum first) one
  unfolding next_guess
  first_round e =
      rw e
      (record {
        is = refl;
        least = add_at_least binary64 10 first _ (lit≤ tt) first_known (quotient_not_negative binary64 10 sum (num sum) (den sum) (den_pos sum) (own_value sum sum_known.0) first first_known);
        t_fits = add-fits binary64 first _;
      })

  next_round : {n : ℕ} {guess t u : Float} → n + 53 ≤ 1074 → Twice n guess t → u ≡ next_twice (add binary64 sum sum) t → Twice (suc n) (next_guess sum guess) u
  unfolding next_guess
  next_round {n} {guess} {t} room w e =
      let half_of_t : mul binary64 t half ≡ mul binary64 t (fin false 1 (negsuc 0)) = ap (mul binary64 t) half_made in
      let same = quotient binary64 n room sum sum_known.0 doubles.sum_fits sum_known.1 t w.t_fits w.least in
      let double = twice binary64 n room sum sum_known.0 doubles.sum_fits sum_known.1 in
      rw e
      (record {
        is = ap (λ (g : Float). mul binary64 (add binary64 g (div binary64 sum g)) half) w.is ∙ ap (λ (q : Float). mul binary64 (add binary64 (mul binary64 t half) q) half) (ap (div binary64 sum) half_of_t ∙ sym same);
        least = add_at_least binary64 (suc n) (mul binary64 t half) _ (omega arith) (rw half_of_t (half_at_least binary64 n room t w.t_fits w.least))
            (quotient_not_negative binary64 n (add binary64 sum sum) (num sum * 2) (den sum) (den_pos sum) double t w.least);
        t_fits = add-fits binary64 (mul binary64 t half) _;
      })

  pub six_rounds_made : {one two three four five six : Float} → one ≡ add binary64 first (div binary64 sum first) → two ≡ next_twice (add binary64 sum sum) one
      → three ≡ next_twice (add binary64 sum sum) two → four ≡ next_twice (add binary64 sum sum) three → five ≡ next_twice (add binary64 sum sum) four
      → six ≡ next_twice (add binary64 sum sum) five → mul binary64 six half ≡ after_rounds 6 sum first
  unfolding after_rounds
  six_rounds_made a b c d e f =
      sym (next_round (lit≤ tt) (next_round (lit≤ tt) (next_round (lit≤ tt) (next_round (lit≤ tt) (next_round (lit≤ tt) (first_round a) b) c) d) e) f).is

-- ---- in the lanes of a vector

pub round_in_lanes : {h : Float} → h ≡ half → (sum guess : List Float) → length sum ≡ 2 → length guess ≡ 2
    → zip2 (add binary64) (zip2 (mul binary64) guess (h ∷ h ∷ [])) (zip2 (div binary64) sum guess) ≡ zip2 next_twice sum guess
round_in_lanes e (a ∷ b ∷ []) (x ∷ y ∷ []) n m = rw e refl
round_in_lanes e [] guess n m = absurd (omega arith)
round_in_lanes e (a ∷ []) guess n m = absurd (omega arith)
round_in_lanes e (a ∷ b ∷ c ∷ sum) guess n m = absurd (omega arith)
round_in_lanes e (a ∷ b ∷ []) [] n m = absurd (omega arith)
round_in_lanes e (a ∷ b ∷ []) (x ∷ []) n m = absurd (omega arith)
round_in_lanes e (a ∷ b ∷ []) (x ∷ y ∷ z ∷ guess) n m = absurd (omega arith)

module _ {h : Float} (half_is : h ≡ half) {a b x y : Float} (first_doubles : Doubles a x) (second_doubles : Doubles b y) where
  abbrev pub next : List Float → List Float
  next = zip2 next_twice (add binary64 a a ∷ add binary64 b b ∷ [])

  pub six_rounds_in_lanes : {two three four five six : List Float} → two ≡ next (add binary64 x (div binary64 a x) ∷ add binary64 y (div binary64 b y) ∷ []) → three ≡ next two → four ≡ next three
      → five ≡ next four → six ≡ next five → zip2 (mul binary64) six (h ∷ h ∷ []) ≡ after_rounds 6 a x ∷ after_rounds 6 b y ∷ []
  six_rounds_in_lanes two three four five six =
      let made = six ∙ ap next (five ∙ ap next (four ∙ ap next (three ∙ ap next two))) in
      ap (λ (l : List Float). zip2 (mul binary64) l (h ∷ h ∷ [])) made
      ∙ rw half_is (λ i. six_rounds_made a x first_doubles refl refl refl refl refl refl i ∷ six_rounds_made b y second_doubles refl refl refl refl refl refl i ∷ [])

-- ---- two zeros added are no first guess in range

no_zero : (x : Float) (s : Bool) (c : ℕ) → 0 < c → HasValue x s 0 c → AtLeast 10 x → ⊥
no_zero nan s c C v h = v
no_zero (inf t) s c C v h = v
no_zero (fin true m e) s c C v h = h
no_zero (fin false m e) s c C v h =
    lt_irrefl 0 (subst (λ (a : ℕ). 0 < a) (v.1 ∙ zero-mul (down e)) (mul-pos (first_pos (m * up e) (2 ^ 10) (lt_of_lt_of_le (down_pos e) h)) C))

zero_rounded : (s : Bool) (c : ℕ) → 0 < c → HasValue (round binary64 s 0 c) s 0 c
zero_rounded s c C = round_exact binary64 s 0 c 0 0 C (lit< tt) (lit< tt) (sym (zero-mul c))

zero_sum : (s t : Bool) (a b c : ℕ) → a ≡ 0 → b ≡ 0 → 0 < c → AtLeast 10 (sum binary64 s a t b c) → ⊥
unfolding sum
zero_sum s t a b c p q C = rw p (rw q (by_signs s t))
  where
    by_signs : (s t : Bool) → AtLeast 10 (sum binary64 s 0 t 0 c) → ⊥
    by_signs true true = no_zero _ true c C (zero_rounded true c C)
    by_signs true false = no_zero _ false c C (zero_rounded false c C)
    by_signs false true = no_zero _ false c C (zero_rounded false c C)
    by_signs false false = no_zero _ false c C (zero_rounded false c C)

eq_zero : (s : Bool) (m : ℕ) (e : ℤ) → eq (fin s m e) (fin false 0 (pos 0)) ≡ true → m ≡ 0
unfolding eq
eq_zero s m e h = zero_only m e (pos 0) (eqb-true _ _ (both (eqb (m * up e * 1) (0 * 1 * down e)) _ h).0 ∙ zero-mul (down e))

zeros_added : (x y : Float) → (eq x (whole 0) && eq y (whole 0)) ≡ true → AtLeast 10 (add binary64 x y) → ⊥
unfolding eq add
zeros_added x y h = made x y (ap (λ (z : Float). eq x z && eq y z) (sym zero_made) ∙ h)
  where
    none : (a b : ℕ) → 0 * a * b ≡ 0
    none a b = ap (λ (z : ℕ). z * b) (zero-mul a) ∙ zero-mul b

    made : (x y : Float) → (eq x (fin false 0 (pos 0)) && eq y (fin false 0 (pos 0))) ≡ true → AtLeast 10 (add binary64 x y) → ⊥
    made nan y h = absurd (false≢true h)
    made (inf s) y h = absurd (false≢true h)
    made (fin s m e) nan h = absurd (false≢true (both (eq (fin s m e) (fin false 0 (pos 0))) false h).1)
    made (fin s m e) (inf t) h = absurd (false≢true (both (eq (fin s m e) (fin false 0 (pos 0))) false h).1)
    made (fin s m e) (fin t n d) h =
        let zeros = both (eq (fin s m e) (fin false 0 (pos 0))) (eq (fin t n d) (fin false 0 (pos 0))) h in
        zero_sum s t (m * up e * down d) (n * up d * down e) (down e * down d) (rw (eq_zero s m e zeros.0) (none (up e) (down d))) (rw (eq_zero t n d zeros.1) (none (up d) (down e))) (mul-pos (down_pos e) (down_pos d))

pub not_at_rest : (s : Fall) (sum : Float) → in_range sum (add binary64 s.horizontal s.downward) ≡ true → (eq s.horizontal (whole 0) && eq s.downward (whole 0)) ≡ false
not_at_rest s sum h = by_test (eq s.horizontal (whole 0) && eq s.downward (whole 0)) refl
  where
    by_test : (t : Bool) → (eq s.horizontal (whole 0) && eq s.downward (whole 0)) ≡ t → t ≡ false
    by_test true e =
        absurd (zeros_added s.horizontal s.downward e (first_bound _ (both (lt (whole 0) sum && lt sum (whole 1000000000)) (lt (decimal (1 over 1000)) (add binary64 s.horizontal s.downward)) h).1))
    by_test false e = refl

-- the speed of a state that is in range
pub speed_found : (s : Fall) {sum first speed : Float} → sum ≡ squares s → first ≡ first_guess s → in_range sum first ≡ true → speed ≡ after_rounds 6 sum first → speed ≡ speed_of s
speed_found s {sum} {first} a b range made =
    let range_of : in_range (squares s) (first_guess s) ≡ true = rw (sym a, sym b) range in
    speed_by_rounds s (not_at_rest s (squares s) range_of) (made ∙ rw (a, b) refl)
