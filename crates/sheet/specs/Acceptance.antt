-- When a sheet is accepted and when it is refused: "A refusal comes when its condition holds and at no other time."
use Rattle.std.specs.Prelude.{◌≡◌, ◌↔◌, ℕ, ◌≤◌, ◌<◌}
use Rattle.refusal.specs.Refusals.{AnswerPromise}
use Rattle.columns.specs.Column.{last_limit}
use Rattle.sheet.specs.Ranges.{InRange}
use Rattle.sheet.specs.declared.SheetAnswer.{SheetAnswer}
use Rattle.sheet.specs.Sheet.{lines_of, refused_sheet, accepted_sheet, sheet_tests, sheet_of}

-- each refusal exactly when its test is the first that holds; it is 0 or one of 1 to 4; an accepted sheet has the lines, and a refused one is all zeros
abbrev pub SheetPromise : ℕ → ℕ → ℕ → Type 0
SheetPromise w m v =
    AnswerPromise (λ (a : SheetAnswer). a.refusal) (sheet_tests w m v) (accepted_sheet (lines_of w m v)) refused_sheet (sheet_of w m v)

-- the same of refusal 4 and of none, by the ranges
pub record RefusedExactlyWhen (w m v : ℕ) : Type 0 where
  pub four : (sheet_of w m v).refusal ≡ 4 ↔ InRange w m v × (last_limit < (lines_of w m v).area.high)
  pub none : (sheet_of w m v).refusal ≡ 0 ↔ InRange w m v × ((lines_of w m v).area.high ≤ last_limit)
