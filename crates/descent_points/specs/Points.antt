-- What a worked fall says: the falls of PointTable.antt, which the checker works out, with one claim.
use Rattle.std.specs.Prelude.{◌≡◌, List, [], ◌∷◌}
use Rattle.fall.specs.Step.{state_after}
use Rattle.descent.specs.Descent.{body_of, first_state, descent_of}
use Rattle.fall.specs.declared.Fall.{Fall}
use Rattle.fall.specs.declared.Body.{Body}
use Rattle.descent_points.specs.DescentPoint.{DescentPoint}

-- each state is 200 steps after the one before
abbrev pub Every200 : Body → Fall → List Fall → Type 0
Every200 b s [] = Prim.Unit {0}
Every200 b s (t ∷ ts) = (state_after b s 200 ≡ t) × Every200 b t ts

pub record PointHolds (p : DescentPoint) : Type 0 where
  pub answer : descent_of p.w p.m p.v p.height p.budget ≡ p.answer
  pub on_the_way : Every200 (body_of p.w p.m) (first_state p.v) p.on_the_way
