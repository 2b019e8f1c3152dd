-- The exact area against a whole number: the test goes with the number.
use mathlib.Core.Path.{◌≡◌, refl}
use Prim.Native.Nat.{ℕ, ◌*◌, ◌≤◌}
use native.Mathlib.Nat.{mul-le-mul_right, le_of_mul-le-mul_right, pow-le-pow_left}
use native.Mathlib.Omega.{arith}
use borrow.Author.Tests.{leb-true, le-leb}
use Rattle.arithmetic.specs.Fraction.{Fraction}
use Rattle.columns.specs.ExactColumn.{LiesIn}
use Rattle.columns.specs.declared.Bracket.{Bracket}
use Rattle.high_angle.proofs.RootLaws.{power_at_most}
use Rattle.exact_high_angle.specs.ExactHighAngle.{ExactFactor, number, root_of, fifth_power, area_side, number_side, at_most}
use Rattle.exact_high_angle.specs.Accuracy.{LiesInBracket}

side_den : (f : ExactFactor) (n : ℕ) → (number_side f n).den ≡ 1
unfolding number_side fifth_power
side_den (number x) n = refl
side_den (root_of x) n = refl

side_mono : (f : ExactFactor) (a b : ℕ) → a ≤ b → (number_side f a).num ≤ (number_side f b).num
unfolding number_side fifth_power
side_mono (number x) a b h = h
side_mono (root_of x) a b h = pow-le-pow_left h 5

side_order : (f : ExactFactor) (a b : ℕ) → (number_side f a).num ≤ (number_side f b).num → a ≤ b
unfolding number_side fifth_power
side_order (number x) a b h = h
side_order (root_of x) a b h = power_at_most a b h

-- what lies in the bracket by the sides lies in it by the test
pub lies_in_by_test : (f : ExactFactor) (c : Fraction) (area : Bracket) → LiesInBracket f c area → LiesIn area (at_most f c)
lies_in_by_test f c area h =
    record {
      low_at_most = λ limit t.
          side_order f area.low limit
          (le_of_mul-le-mul_right {k = x.den} (omega (arith, low, rw (side_den f limit) at (leb-true (x.num * (number_side f limit).den) ((number_side f limit).num * x.den) t))) h.denominator_above_zero);
      high_at_least = λ limit l.
          le-leb (x.num * (number_side f limit).den) ((number_side f limit).num * x.den)
          (rw (side_den f limit) (omega (arith, high, mul-le-mul_right x.den (side_mono f area.high limit l))));
    }
  where
    x : Fraction
    x = area_side f c

    low : (number_side f area.low).num * x.den ≤ x.num * 1
    low = rw (side_den f area.low) at h.low_at_most

    high : x.num * 1 ≤ (number_side f area.high).num * x.den
    high = rw (side_den f area.high) at h.high_at_least
