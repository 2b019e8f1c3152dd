-- "show in docs/ one aircraft of each that breaks it": docs/AREA_ROUTE.md has these two.
use Rattle.std.specs.Prelude.{◌≡◌, List, [], ◌∷◌, ◌<◌}
use Rattle.sheet.specs.Points.{SheetPoint, SheetPointHolds, accepted}
use Rattle.exact_area.specs.ExactArea.{exact_column}
use Rattle.area_route.specs.AreaRoute.{HasSizeColumn}

-- An aircraft of the claim, but for its dimension. Its sheet has the point's figures, and its column is above its size column. The exact column is the same
-- as the sheet's, so no rounding makes it so.
pub record IsCounterexample (p : SheetPoint) : Type 0 where
  pub of_the_claim : HasSizeColumn p.w p.m p.v
  pub sheet : SheetPointHolds p
  pub above : p.figures.size_column < p.figures.column
  pub exact : exact_column p.w p.m p.v ≡ p.figures.column

-- dimension, mass, speed; low and high area, column, size column
abbrev pub counterexamples : List SheetPoint
counterexamples =
    accepted 1000 10000 2500 114494 114495 2 1
    ∷ accepted 8000 25000000 7500 10121539 10121540 4 3
    ∷ []
