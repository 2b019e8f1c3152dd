-- What the law of the exact column asks, of a fraction between two whole numbers that are at most 7 apart.
use Prim.Native.Nat.{◌+◌, ◌*◌, ◌≤◌, ◌<◌}
use native.Mathlib.Nat.{mul-le-mul_right, le_of_mul-le-mul_right}
use native.Mathlib.Omega.{arith}
use borrow.Author.Tests.{leb-true, le-leb}
use Rattle.arithmetic.specs.Fraction.{Fraction, ◌over◌, ◌⊑◌}
use Rattle.columns.specs.ExactColumn.{LiesIn, MeetsAtMostOneLimit}
use Rattle.columns.specs.declared.Bracket.{Bracket}
use Rattle.columns.proofs.LimitLaws.{limit_tenfold, limit_mono}
use Rattle.exact_area.specs.ExactArea.{under}

pub lies_in : (x : Fraction) (area : Bracket) → 0 < x.den → area.low over 1 ⊑ x → x ⊑ area.high over 1 → LiesIn area (under x)
lies_in x area pos low high =
    record {
      low_at_most = λ limit h. le_of_mul-le-mul_right {k = x.den} (omega (arith, leb-true)) pos;
      high_at_least = λ limit h. le-leb x.num (limit * x.den) (omega (arith, mul-le-mul_right x.den h));
    }

pub meets_at_most_one : (area : Bracket) → area.high ≤ area.low + 7 → MeetsAtMostOneLimit area
meets_at_most_one area width i h l = omega (arith, limit_tenfold i h, limit_mono 0 i (omega arith) (omega arith))
