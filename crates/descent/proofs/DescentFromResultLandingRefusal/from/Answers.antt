use mathlib.Core.Path.{◌≡◌, refl}
use Prim.Native.Nat.{ℕ}
use lib.Ieee.{Float, binary64, of_bits}
use Rattle.fall.proofs.Literals.{zero_is}
use Rattle.descent.specs.Descent.{refused_descent}
use Rattle.descent.specs.declared.Descent.{Descent}
use Rattle.descent.proofs.DescentFromResultLandingRefusal.from.Goals as goal

-- A refused answer is zeros beside the refusal.

module _ {n above_60 steps : ℕ} {horizontal downward fallen : Float} where
  zeros_made : above_60 ≡ 0 → steps ≡ 0 → horizontal ≡ of_bits binary64 0 → downward ≡ of_bits binary64 0 → fallen ≡ of_bits binary64 0
      → ◌≡◌ {A = Descent}
      (record {
        refusal = n;
        above_60 = above_60;
        steps = steps;
        end = record { horizontal = horizontal; downward = downward; fallen = fallen };
      }) (refused_descent n)
  zeros_made a s h d f = rw (a, s, h, d, f, zero_is) refl

pub returns-in-Err : goal.returns-in-Err
returns-in-Err c =
    let zero = c.default.ensures in
    rw (c.in-Err.is, c.into-in-Err.ensures) (zeros_made zero.1.0 zero.1.1.0 zero.1.1.1.0 zero.1.1.1.1.0 zero.1.1.1.1.1)
