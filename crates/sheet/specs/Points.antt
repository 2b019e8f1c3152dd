-- The worked points P1 to P8 of document 01, "P2, P5 .. worked again" (document 02, item 6). Their size columns are worked by us; item 1 gives that of
-- P2's aircraft, "01 at P16".
use Rattle.std.specs.Prelude.{◌≡◌, List, [], ◌∷◌, ℕ}
use Rattle.sheet.specs.Sheet.{sheet_of}

-- what the table shows of a sheet
pub record SheetFigures : Type 0 where
  pub refusal : ℕ
  pub low : ℕ
  pub high : ℕ
  pub column : ℕ
  pub size_column : ℕ

unfoldable pub sheet_figures : ℕ → ℕ → ℕ → SheetFigures
sheet_figures w m v =
    let answer = sheet_of w m v
    in record { refusal = answer.refusal; low = answer.sheet.area.low; high = answer.sheet.area.high; column = answer.sheet.column; size_column = answer.sheet.size_column }

-- a line of the table: an aircraft and its figures
pub record SheetPoint : Type 0 where
  pub w : ℕ
  pub m : ℕ
  pub v : ℕ
  pub figures : SheetFigures

abbrev pub SheetPointHolds : SheetPoint → Type 0
SheetPointHolds p = sheet_figures p.w p.m p.v ≡ p.figures

abbrev pub accepted : ℕ → ℕ → ℕ → ℕ → ℕ → ℕ → ℕ → SheetPoint
accepted w m v low high column size =
    record { w = w; m = m; v = v; figures = record { refusal = 0; low = low; high = high; column = column; size_column = size } }

abbrev refused : ℕ → ℕ → ℕ → ℕ → SheetPoint
refused w m v n = record { w = w; m = m; v = v; figures = record { refusal = n; low = 0; high = 0; column = 0; size_column = 0 } }

abbrev pub sheet_points : List SheetPoint
sheet_points =
    accepted 50 50 0 18367 18368 1 1
    ∷ accepted 1000 10000 2500 114494 114495 2 1
    ∷ accepted 1001 10000 0 36766 36767 1 2
    ∷ accepted 3000 25000 3500 592295 592296 2 2
    ∷ accepted 8000 50000 0 801663 801664 3 3
    ∷ accepted 8001 50000 0 801824 801825 3 4
    ∷ refused 49 0 0 1
    ∷ refused 100000 25000000 40000 4
    ∷ []
