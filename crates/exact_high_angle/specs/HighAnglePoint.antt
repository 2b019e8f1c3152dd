-- The shape of a worked point.
use Rattle.std.specs.Prelude.{ℕ}
use Rattle.columns.specs.declared.Bracket.{Bracket}
use Rattle.high_angle.specs.HighAngle.{refused_high_angle}
use Rattle.high_angle.specs.declared.HighAngle.{HighAngle}

-- the answer, and the exact column beside it; 0 where it is refused
pub record Worked : Type 0 where
  pub answer : HighAngle
  pub exact_column : ℕ

pub record HighAnglePoint : Type 0 where
  pub w : ℕ
  pub m : ℕ
  pub v : ℕ
  pub worked : Worked

abbrev pub accepted : ℕ → ℕ → ℕ → ℕ → Bracket → Bracket → Bracket → ℕ → ℕ → ℕ → HighAnglePoint
accepted w m v frontal joules factor area column flag exact =
    let answer : HighAngle = record { refusal = 0; column = column; flag = flag; frontal_area = frontal; joules = joules; factor = factor; area = area }
    in record { w = w; m = m; v = v; worked = record { answer = answer; exact_column = exact } }

abbrev pub refused : ℕ → ℕ → ℕ → ℕ → HighAnglePoint
refused w m v n = record { w = w; m = m; v = v; worked = record { answer = refused_high_angle n; exact_column = 0 } }
