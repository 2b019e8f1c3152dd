-- The shape of a worked fall.
use Rattle.std.specs.Prelude.{List, [], ℕ}
use Rattle.std.specs.Float.{binary64}
use Rattle.std.specs.Float.Ieee.{of_bits}
use Rattle.descent.specs.Descent.{refused_descent}
use Rattle.fall.specs.declared.Fall.{Fall}
use Rattle.descent.specs.declared.Descent.{Descent}

-- a state, by the bits of its three numbers
abbrev pub fall : ℕ → ℕ → ℕ → Fall
fall horizontal downward fallen =
    record { horizontal = of_bits binary64 horizontal; downward = of_bits binary64 downward; fallen = of_bits binary64 fallen }

-- the five inputs, the states after every 200 steps before the end, and the answer
pub record DescentPoint : Type 0 where
  pub w : ℕ
  pub m : ℕ
  pub v : ℕ
  pub height : ℕ
  pub budget : ℕ
  pub on_the_way : List Fall
  pub answer : Descent

abbrev pub landed : ℕ → ℕ → ℕ → ℕ → ℕ → List Fall → ℕ → ℕ → Fall → DescentPoint
landed w m v height budget on_the_way above steps end =
    let answer : Descent = record { refusal = 0; above_60 = above; steps = steps; end = end }
    in record { w = w; m = m; v = v; height = height; budget = budget; on_the_way = on_the_way; answer = answer }

abbrev pub refused : ℕ → ℕ → ℕ → ℕ → ℕ → ℕ → DescentPoint
refused w m v height budget n =
    record { w = w; m = m; v = v; height = height; budget = budget; on_the_way = []; answer = refused_descent n }
