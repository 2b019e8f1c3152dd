-- Laws of the area that a planner would check.
use Rattle.std.specs.Prelude.{◌≡◌, ℕ, ◌≤◌, ◌<◌}
use Rattle.sheet.specs.Ranges.{mass_min}
use Rattle.sheet.specs.Lines.{formula_of}
use Rattle.sheet.specs.Sheet.{lines_of}

pub record AreaGrows (w w' m m' v v' : ℕ) : Type 0 where
  pub low : (lines_of w m v).area.low ≤ (lines_of w' m' v').area.low
  pub high : (lines_of w m v).area.high ≤ (lines_of w' m' v').area.high

-- More speed or more mass never lowers an area.
abbrev pub AreaGrowsWithMassAndSpeed : Type 0
AreaGrowsWithMassAndSpeed = (w m m' v v' : ℕ) → mass_min ≤ m → m ≤ m' → v ≤ v' → AreaGrows w w m m' v v'

-- Nor does more dimension in one formula.
abbrev pub AreaGrowsInOneFormula : Type 0
AreaGrowsInOneFormula = (w w' m m' v v' : ℕ) → formula_of w ≡ formula_of w' → w ≤ w' → mass_min ≤ m → m ≤ m' → v ≤ v' → AreaGrows w w' m m' v v'

-- "The area doesn't always grow with the dimension: compare P2 and P3." Since document 02, item 6, P2's area counts its slide, and P3 is at rest; so here
-- it is one aircraft, at rest: at 1,000 mm its area is smaller than at 999.
abbrev pub AreaDoesNotAlwaysGrow : Type 0
AreaDoesNotAlwaysGrow = (lines_of 1000 10000 0).area.high < (lines_of 999 10000 0).area.low
