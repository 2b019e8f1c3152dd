-- Two f64 that compare as equal are the same, zeros left out: +0 and −0 compare as equal. A round that returns its guess returns it for ever.
use mathlib.Core.Path.{◌≡◌, refl, sym, ap, subst, ◌∙◌}
use mathlib.Core.Bool.{Bool, true, false, cond, ◌&&◌, ◌||◌, beq, false≢true}
use Prim.Native.Nat.{ℕ, zero, suc, ◌+◌, ◌-◌, ◌*◌, ◌/◌, ◌^◌, ◌<◌}
use native.Mathlib.Nat.{lt_irrefl, mul_right_comm, mul-pos, zero-lt-suc}
use native.Mathlib.Omega.{arith}
use lib.Dec.{T, eqb}
use lib.Count.{count_trailing_zeros}
use lib.IntN.{ℤ, pos}
use lib.Ieee.{Float, nan, inf, fin, binary64, prec, low, top, hid, up, down, size, fits, eq, lt, add, mul, div, to_bits, of_bits, of_int, round, span, climb, units, odd}
use lib.Ieee.Bits.{of_bits-to_bits}
use lib.Ieee.Fits.{up_pos, down_pos, mul-fits}
use lib.Ieee.Nearest.{div_same}
use borrow.Author.Tests.{eqb-true, eqb-false, ne_eqb, ltb-true, le-ltb}
use Rattle.arithmetic.proofs.TestLaws.{both}
use Rattle.fall.specs.Numbers.{whole}
use Rattle.fall.specs.Step.{squares, first_guess, half, next_guess, after_rounds, speed_of}
use Rattle.fall.specs.declared.Fall.{Fall}

-- as fractions equal, with one sign: the same bits, and so the same
same_bits : (s : Bool) (m : ℕ) (e : ℤ) (n : ℕ) (d : ℤ) → m * up e * down d ≡ n * up d * down e → to_bits binary64 (fin s m e) ≡ to_bits binary64 (fin s n d)
unfolding to_bits
same_bits s m e n d h =
    let scaled = mul_right_comm (m * up e) (2 ^ low binary64) (down d) ∙ ap (λ (x : ℕ). x * 2 ^ low binary64) h ∙ mul_right_comm (n * up d) (down e) (2 ^ low binary64) in
    ap (λ (x : ℕ). cond s (top binary64) 0 + (size x - prec binary64) * hid binary64 + x / 2 ^ (size x - prec binary64))
    (div_same (m * up e * 2 ^ low binary64) (down e) (n * up d * 2 ^ low binary64) (down d) (down_pos e) (down_pos d) scaled)

same_number : (s : Bool) (m : ℕ) (e : ℤ) (n : ℕ) (d : ℤ) → T (fits binary64 (fin s m e)) → T (fits binary64 (fin s n d)) → m * up e * down d ≡ n * up d * down e
    → fin s m e ≡ fin s n d
same_number s m e n d f g h =
    sym (of_bits-to_bits binary64 (fin s m e) f) ∙ ap (of_bits binary64) (same_bits s m e n d h) ∙ of_bits-to_bits binary64 (fin s n d) g

-- only a zero has no numerator
pub zero_only : (n : ℕ) (d e : ℤ) → n * up d * down e ≡ 0 → n ≡ 0
zero_only zero d e h = refl
zero_only (suc n) d e h =
    absurd (lt_irrefl 0 (subst (λ (x : ℕ). 0 < x) h (mul-pos (mul-pos (zero-lt-suc n) (up_pos d)) (down_pos e))))

abbrev pub is_zero : Float → Bool
is_zero nan = false
is_zero (inf s) = false
is_zero (fin s m e) = eqb m 0

pub same_or_zero : (x y : Float) → T (fits binary64 x) → T (fits binary64 y) → eq x y ≡ true → is_zero y ≡ false → x ≡ y
unfolding eq
same_or_zero nan y f g e z = absurd (false≢true e)
same_or_zero (inf s) nan f g e z = absurd (false≢true e)
same_or_zero (inf true) (inf true) f g e z = refl
same_or_zero (inf true) (inf false) f g e z = absurd (false≢true e)
same_or_zero (inf false) (inf true) f g e z = absurd (false≢true e)
same_or_zero (inf false) (inf false) f g e z = refl
same_or_zero (inf s) (fin t n d) f g e z = absurd (false≢true e)
same_or_zero (fin s m e) nan f g h z = absurd (false≢true h)
same_or_zero (fin s m e) (inf t) f g h z = absurd (false≢true h)
same_or_zero (fin s m e) (fin t n d) f g h z = by_signs s t f g equal.0 equal.1
  where
    equal : (eqb (m * up e * down d) (n * up d * down e) ≡ true) × ((beq s t || eqb (m * up e * down d) 0) ≡ true)
    equal = both (eqb (m * up e * down d) (n * up d * down e)) (beq s t || eqb (m * up e * down d) 0) h

    other_sign : eqb (m * up e * down d) (n * up d * down e) ≡ true → eqb (m * up e * down d) 0 ≡ true → ⊥
    other_sign p q = eqb-false n 0 z (zero_only n d e (sym (eqb-true (m * up e * down d) (n * up d * down e) p) ∙ eqb-true (m * up e * down d) 0 q))

    by_signs : (s t : Bool) → T (fits binary64 (fin s m e)) → T (fits binary64 (fin t n d)) → eqb (m * up e * down d) (n * up d * down e) ≡ true
        → (beq s t || eqb (m * up e * down d) 0) ≡ true → fin s m e ≡ fin t n d
    by_signs true true f g p q = same_number true m e n d f g (eqb-true (m * up e * down d) (n * up d * down e) p)
    by_signs true false f g p q = absurd (other_sign p q)
    by_signs false true f g p q = absurd (other_sign p q)
    by_signs false false f g p q = same_number false m e n d f g (eqb-true (m * up e * down d) (n * up d * down e) p)

-- ---- numbers above zero

pub zero_made : whole 0 ≡ fin false 0 (pos 0)
unfolding of_int round size span climb units odd count_trailing_zeros
zero_made = refl

above_not_zero : (y : Float) → lt (whole 0) y ≡ true → is_zero y ≡ false
unfolding lt
above_not_zero y l = made y (ap (λ (x : Float). lt x y) (sym zero_made) ∙ l)
  where
    made : (y : Float) → lt (fin false 0 (pos 0)) y ≡ true → is_zero y ≡ false
    made nan l = refl
    made (inf s) l = refl
    made (fin true m e) l = absurd (false≢true l)
    made (fin false zero e) l = absurd (omega (arith, ltb-true (0 * 1 * down e) (0 * up e * 1) l))
    made (fin false (suc m) e) l = ne_eqb (suc m) 0 (λ z. absurd (omega arith))

pub finite_not_below : (m : ℕ) (e : ℤ) → lt (fin false m e) (fin false 0 (pos 0)) ≡ false
unfolding lt
finite_not_below m e = le-ltb (m * up e * 1) (0 * 1 * down e) (omega arith)

pub above_not_below : (y : Float) → lt (whole 0) y ≡ true → lt y (whole 0) ≡ false
unfolding lt
above_not_below y l = ap (lt y) zero_made ∙ made y (ap (λ (x : Float). lt x y) (sym zero_made) ∙ l)
  where
    made : (y : Float) → lt (fin false 0 (pos 0)) y ≡ true → lt y (fin false 0 (pos 0)) ≡ false
    made nan l = refl
    made (inf true) l = absurd (false≢true l)
    made (inf false) l = refl
    made (fin true m e) l = absurd (false≢true l)
    made (fin false m e) l = finite_not_below m e

-- an f64 that compares as equal with one above zero is that one
pub same_above_zero : (x y : Float) → T (fits binary64 x) → T (fits binary64 y) → eq x y ≡ true → lt (whole 0) y ≡ true → x ≡ y
same_above_zero x y f g e l = same_or_zero x y f g e (above_not_zero y l)

-- ---- a round from a zero has no finite result

abbrev is_endless : Float → Bool
is_endless nan = true
is_endless (inf s) = true
is_endless (fin s m e) = false

either_endless : (t s : Bool) → is_endless (cond t nan (inf s)) ≡ true
either_endless true s = refl
either_endless false s = refl

over_zero : (x : Float) (s : Bool) (m : ℕ) (e : ℤ) → eqb m 0 ≡ true → is_endless (div binary64 x (fin s m e)) ≡ true
unfolding div
over_zero nan s m e z = refl
over_zero (inf t) s m e z = refl
over_zero (fin t n d) s m e z = rw z (either_endless (eqb n 0) _)

added_endless : (s : Bool) (m : ℕ) (e : ℤ) (y : Float) → is_endless y ≡ true → is_endless (add binary64 (fin s m e) y) ≡ true
unfolding add
added_endless s m e nan h = refl
added_endless s m e (inf t) h = refl
added_endless s m e (fin t n d) h = absurd (false≢true h)

times_endless : (x y : Float) → is_endless x ≡ true → is_endless (mul binary64 x y) ≡ true
unfolding mul
times_endless nan y h = refl
times_endless (inf s) nan h = refl
times_endless (inf s) (inf t) h = refl
times_endless (inf s) (fin t n d) h = either_endless (eqb n 0) _
times_endless (fin s m e) y h = absurd (false≢true h)

unlike_finite : (x : Float) (s : Bool) (m : ℕ) (e : ℤ) → is_endless x ≡ true → eq x (fin s m e) ≡ false
unfolding eq
unlike_finite nan s m e h = refl
unlike_finite (inf t) s m e h = refl
unlike_finite (fin t n d) s m e h = absurd (false≢true h)

guess_not_zero : (sum guess : Float) → eq (next_guess sum guess) guess ≡ true → is_zero guess ≡ false
unfolding next_guess
guess_not_zero sum nan h = refl
guess_not_zero sum (inf s) h = refl
guess_not_zero sum (fin s m e) h = by_test (eqb m 0) refl
  where
    by_test : (t : Bool) → eqb m 0 ≡ t → t ≡ false
    by_test true z =
        let endless = times_endless _ half (added_endless s m e _ (over_zero sum s m e z)) in
        absurd (false≢true (sym (unlike_finite _ s m e endless) ∙ h))
    by_test false z = refl

-- ---- the rounds

pub guess_fits : (sum guess : Float) → T (fits binary64 (next_guess sum guess))
unfolding next_guess
guess_fits sum guess = mul-fits binary64 _ half

-- a round that returns its guess returns it again and again
pub returned_stays : (n : ℕ) (sum guess : Float) → next_guess sum guess ≡ guess → next_guess sum guess ≡ after_rounds n sum guess
unfolding after_rounds
returned_stays zero sum guess same = same
returned_stays (suc n) sum guess same = returned_stays n sum guess same ∙ ap (after_rounds n sum) (sym same)

pub guess_stays : (n : ℕ) (sum guess : Float) → T (fits binary64 guess) → eq (next_guess sum guess) guess ≡ true → next_guess sum guess ≡ after_rounds n sum guess
guess_stays n sum guess f h =
    returned_stays n sum guess (same_or_zero (next_guess sum guess) guess (guess_fits sum guess) f h (guess_not_zero sum guess h))

one_round : (n : ℕ) (sum guess : Float) → after_rounds (suc n) sum guess ≡ after_rounds n sum (next_guess sum guess)
unfolding after_rounds
one_round n sum guess = refl

pub round_made : (all n : ℕ) (sum guess : Float) → n < all → after_rounds (all - n) sum guess ≡ after_rounds (all - (n + 1)) sum (next_guess sum guess)
round_made all n sum guess h = let left : all - n ≡ suc (all - (n + 1)) = omega arith in rw left (one_round (all - (n + 1)) sum guess)

pub rounds_made : (sum guess : Float) → after_rounds 0 sum guess ≡ guess
unfolding after_rounds
rounds_made sum guess = refl

-- the speed of a state that isn't at rest
pub speed_by_rounds : (s : Fall) {speed : Float} → (eq s.horizontal (whole 0) && eq s.downward (whole 0)) ≡ false
    → speed ≡ after_rounds 6 (squares s) (first_guess s)
    → speed ≡ speed_of s
unfolding speed_of
speed_by_rounds s f e = simp f e
