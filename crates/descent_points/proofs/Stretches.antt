-- The fall as the prover computes it: the tests are arguments to match on, so that no step is computed that isn't taken, and a long fall goes in stretches, each
-- computed by itself.
use mathlib.Core.Path.{◌≡◌, refl, sym, ap, ◌∙◌}
use mathlib.Core.Bool.{Bool, true, false, cond, ◌&&◌, false≢true}
use Prim.Native.Nat.{ℕ, zero, suc}
use native.Mathlib.Omega.{arith}
use lib.Dec.{eqb}
use borrow.Author.Tests.{ne_eqb}
use lib.Ieee.{Float, binary64, of_bits, add, sub, mul, div, eq}
use Rattle.refusal.specs.Refusals.{first_refusal}
use Rattle.refusal.proofs.RefusalLaws.{by_number}
use Rattle.fall.specs.Numbers.{whole, in_metres}
use Rattle.fall.specs.Step.{next_guess, after_rounds, speed_of, drag_per_speed, slowing, next_horizontal, next_downward, next_fallen, next_state, state_after}
use Rattle.fall.proofs.Literals.{zero_is, half_is, time_step_is, gravity_is}
use Rattle.descent.specs.Descent.{body_of, first_state, speed_negative, ground_reached, landed, refused_descent, fall_from, fall_of, descent_tests, descent_of}
use Rattle.fall.specs.declared.Fall.{Fall}
use Rattle.descent.specs.declared.Descent.{Descent}
use Rattle.fall.specs.declared.Body.{Body}

-- ---- a step with its decimals worked out and its speed found once

abbrev half_bits : Float
half_bits = of_bits binary64 0x3fe0_0000_0000_0000

abbrev time_step_bits : Float
time_step_bits = of_bits binary64 0x3f84_7ae1_47ae_147b

abbrev gravity_bits : Float
gravity_bits = of_bits binary64 0x4023_9eb8_51eb_851f

unfoldable pub rounds_of : ℕ → Float → Float → Float
rounds_of zero sum guess = guess
rounds_of (suc n) sum guess = rounds_of n sum (mul binary64 (add binary64 guess (div binary64 sum guess)) half_bits)

rounds_are : (n : ℕ) (sum guess : Float) → rounds_of n sum guess ≡ after_rounds n sum guess
unfolding rounds_of after_rounds next_guess
rounds_are zero sum guess = refl
rounds_are (suc n) sum guess = rounds_are n sum _ ∙ ap (λ (x : Float). after_rounds n sum (mul binary64 (add binary64 guess (div binary64 sum guess)) x)) half_is

unfoldable pub speed_in : Fall → Float
speed_in s =
    cond (eq s.horizontal (of_bits binary64 0) && eq s.downward (of_bits binary64 0)) (of_bits binary64 0)
    (rounds_of 6
    (add binary64 (mul binary64 s.horizontal s.horizontal) (mul binary64 s.downward s.downward))
    (add binary64 s.horizontal s.downward))

speed_is : (s : Fall) → speed_in s ≡ speed_of s
unfolding speed_in speed_of
speed_is s = rw zero_is (ap (cond (eq s.horizontal (whole 0) && eq s.downward (whole 0)) (whole 0)) (rounds_are 6 _ _))

unfoldable pub state_of_drag : Body → Fall → Float → Fall
state_of_drag b s drag =
    let downward = add binary64 s.downward (mul binary64 (sub binary64 gravity_bits (div binary64 (mul binary64 drag s.downward) b.mass)) time_step_bits)
    in record {
      horizontal = sub binary64 s.horizontal (mul binary64 (div binary64 (mul binary64 drag s.horizontal) b.mass) time_step_bits);
      downward = downward;
      fallen = add binary64 s.fallen (mul binary64 (mul binary64 half_bits (add binary64 s.downward downward)) time_step_bits);
    }

unfoldable pub computed_next : Body → Fall → Fall
computed_next b s = state_of_drag b s (mul binary64 b.drag_factor (speed_in s))

next_is : (b : Body) (s : Fall) → computed_next b s ≡ next_state b s
unfolding computed_next state_of_drag next_state next_horizontal next_downward next_fallen slowing drag_per_speed
next_is b s = rw (speed_is s, half_is, time_step_is, gravity_is) refl

-- ---- a fall from a state whose speeds are tested as `negative` and whose distance is as `reached`

unfoldable pub walk : Body → Float → ℕ → Bool → Bool → ℕ → Fall → Descent
walk b h zero true reached n s = refused_descent 19
walk b h zero false true n s = landed n s
walk b h zero false false n s = refused_descent 18
walk b h (suc left) true reached n s = refused_descent 19
walk b h (suc left) false true n s = landed n s
walk b h (suc left) false false n s = let t = computed_next b s in walk b h left (speed_negative t) (ground_reached h t) (suc n) t

walk_is : (b : Body) (h : Float) (left : ℕ) (negative reached : Bool) (n : ℕ) (s : Fall) →
    walk b h left negative reached n s ≡ cond negative (refused_descent 19) (cond reached (landed n s) (fall_from b h left n s))
unfolding walk fall_from
walk_is b h zero true reached n s = refl
walk_is b h zero false true n s = refl
walk_is b h zero false false n s = refl
walk_is b h (suc left) true reached n s = refl
walk_is b h (suc left) false true n s = refl
walk_is b h (suc left) false false n s = rw (sym (next_is b s)) (walk_is b h left (speed_negative (computed_next b s)) (ground_reached h (computed_next b s)) (suc n) (computed_next b s))

-- ---- the answer: the inputs' refusal by its number, or the fall

unfoldable pub answer_by : ℕ → ℕ → ℕ → ℕ → ℕ → ℕ → Descent
answer_by zero w m v height budget = walk (body_of w m) (in_metres height) budget false false 0 (first_state v)
answer_by (suc n) w m v height budget = refused_descent (suc n)

abbrev pub computed : ℕ → ℕ → ℕ → ℕ → ℕ → Descent
computed w m v height budget = answer_by (first_refusal (descent_tests w m v height budget)) w m v height budget

pub computed_is : (w m v height budget : ℕ) → descent_of w m v height budget ≡ computed w m v height budget
unfolding descent_of fall_of answer_by
computed_is w m v height budget =
    sym (by_number (fall_of w m v height budget) refused_descent (descent_tests w m v height budget) refl)
    ∙ by_first (first_refusal (descent_tests w m v height budget))
  where
    by_first : (n : ℕ) → cond (eqb n 0) (fall_of w m v height budget) (refused_descent n) ≡ answer_by n w m v height budget
    by_first zero = sym (walk_is (body_of w m) (in_metres height) budget false false 0 (first_state v))
    by_first (suc n) = simp (ne_eqb (suc n) 0 (λ z. absurd (omega arith)))

-- ---- a stretch: so many steps, every state in the air; or none

pub data Stretch : Type 0 where
  to : Fall → Stretch
  broken : Stretch

unfoldable pub stretch : Body → Float → ℕ → Bool → Bool → Fall → Stretch
stretch b h zero true reached s = broken
stretch b h zero false true s = broken
stretch b h zero false false s = to s
stretch b h (suc k) true reached s = broken
stretch b h (suc k) false true s = broken
stretch b h (suc k) false false s = let t = computed_next b s in stretch b h k (speed_negative t) (ground_reached h t) t

-- k more than n, one by one at either end
unfoldable pub more : ℕ → ℕ → ℕ
more zero n = n
more (suc k) n = suc (more k n)

unfoldable pub more_made : ℕ → ℕ → ℕ
more_made zero n = n
more_made (suc k) n = more_made k (suc n)

abbrev is_to : Stretch → Bool
is_to (to s) = true
is_to broken = false

abbrev end_of : Fall → Stretch → Fall
end_of s (to t) = t
end_of s broken = s

no_end : {A : Type 0} {t : Fall} → broken ≡ to t → A
no_end e = absurd (false≢true (ap is_to e))

-- a stretch is walked over
pub walked_over : (b : Body) (h : Float) (left k : ℕ) (negative reached : Bool) (n : ℕ) (s t : Fall) → stretch b h k negative reached s ≡ to t
    → walk b h (more k left) negative reached n s ≡ walk b h left false false (more_made k n) t
unfolding stretch more more_made walk
walked_over b h left zero true reached n s t e = no_end e
walked_over b h left zero false true n s t e = no_end e
walked_over b h left zero false false n s t e = ap (λ (r : Fall). walk b h left false false n r) (ap (end_of s) e)
walked_over b h left (suc k) true reached n s t e = no_end e
walked_over b h left (suc k) false true n s t e = no_end e
walked_over b h left (suc k) false false n s t e =
    walked_over b h left k (speed_negative (computed_next b s)) (ground_reached h (computed_next b s)) (suc n) (computed_next b s) t e

-- and its end is so many steps after its start
pub step_first : (b : Body) (s : Fall) (k : ℕ) → state_after b s (suc k) ≡ state_after b (next_state b s) k
unfolding state_after
step_first b s zero = refl
step_first b s (suc k) = ap (next_state b) (step_first b s k)

pub stretched : (b : Body) (h : Float) (k : ℕ) (negative reached : Bool) (s t : Fall) → stretch b h k negative reached s ≡ to t → state_after b s k ≡ t
unfolding stretch state_after
stretched b h zero true reached s t e = no_end e
stretched b h zero false true s t e = no_end e
stretched b h zero false false s t e = ap (end_of s) e
stretched b h (suc k) true reached s t e = no_end e
stretched b h (suc k) false true s t e = no_end e
stretched b h (suc k) false false s t e =
    step_first b s k
    ∙ ap (λ (x : Fall). state_after b x k) (sym (next_is b s))
    ∙ stretched b h k (speed_negative (computed_next b s)) (ground_reached h (computed_next b s)) (computed_next b s) t e
