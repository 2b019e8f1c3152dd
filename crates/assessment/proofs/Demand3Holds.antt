-- Demand 3.
use mathlib.Core.Path.{◌≡◌, ap}
use Prim.Native.Nat.{ℕ}
use Rattle.columns.proofs.ExactColumnHolds.{exact_not_above}
use Rattle.exact_area.specs.Accuracy.{ColumnIsAccurate}
use Rattle.exact_area.proofs.AccuracyHolds.{sheet_is_accurate}
use Rattle.assessment.specs.Question.{sheet_asked, exact_column_asked, footprint_asked}
use Rattle.assessment.specs.Working.{working_at}
use Rattle.assessment.specs.Demand3.{SameWorking, sheet_working, exact_working, Demand3OfAll}
use Rattle.assessment.proofs.LowerColumn.{lower_column}

pub demand_3 : Demand3OfAll
demand_3 q accepted =
    record {
      accuracy = (sheet_is_accurate q.dimension q.mass q.speed).area accepted;
      columns = columns;
      unflagged_working = λ e. same (columns.unflagged e);
      flagged_working = λ e. lower_column column exact columns.exact_in_table.0 (exact_not_above columns) q.controlled q.word (footprint_asked q);
    }
  where
    columns : ColumnIsAccurate q.dimension q.mass q.speed (sheet_asked q).sheet
    columns = (sheet_is_accurate q.dimension q.mass q.speed).column accepted

    column : ℕ
    column = (sheet_asked q).sheet.column

    exact : ℕ
    exact = exact_column_asked q

    same : exact ≡ column → SameWorking (sheet_working q) (exact_working q)
    same e =
        record {
          intrinsic = ap (λ (c : ℕ). (working_at c q).intrinsic) e;
          final = ap (λ (c : ℕ). (working_at c q).final) e;
          refusal = ap (λ (c : ℕ). (working_at c q).refusal) e;
        }
