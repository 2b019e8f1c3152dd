-- What a worked point says: the points of PointTable.antt, which the checker works out, with one claim.
use Rattle.std.specs.Prelude.{◌≡◌, cond, ℕ, eqb}
use Rattle.high_angle.specs.HighAngle.{high_angle_of}
use Rattle.exact_high_angle.specs.ExactHighAngle.{exact_column}
use Rattle.exact_high_angle.specs.HighAnglePoint.{Worked, HighAnglePoint}

abbrev pub worked_of : ℕ → ℕ → ℕ → Worked
worked_of w m v =
    record { answer = high_angle_of w m v; exact_column = cond (eqb (high_angle_of w m v).refusal 0) (exact_column w m) 0 }

abbrev pub PointHolds : HighAnglePoint → Type 0
PointHolds p = worked_of p.w p.m p.v ≡ p.worked
