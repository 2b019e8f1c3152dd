-- The two aircraft, by computation.
use mathlib.Core.Path.{◌≡◌, refl}
use Prim.Native.Nat.{◌≤◌, ◌<◌}
use lib.Dec.{lit<, lit≤}
use Rattle.arithmetic.specs.Each.{Each}
use Rattle.arithmetic.specs.Fraction.{plus, minus, times, divided}
use Rattle.arithmetic.specs.Rounding.{div_up}
use Rattle.columns.specs.Column.{column_by, column_of, flag_of}
use Rattle.columns.specs.SizeColumn.{size_column_of}
use Rattle.sheet.specs.Lines.{run_of, saving_of, total_of, formula_of, area_of}
use Rattle.sheet.specs.Sheet.{with_lines, lines_with_size_column, sheet_of, sheet_with_size_column}
use Rattle.sheet.specs.Points.{SheetPoint, sheet_figures, SheetPointHolds}
use Rattle.sheet.proofs.AcceptanceHolds.{refused_exactly_when}
use Rattle.exact_area.specs.ExactArea.{exact_glide, speed_term, mass_term, friction, exact_slide, half_width, whole_area, exact_by, exact_area, exact_column}
use Rattle.area_route.specs.Points.{IsCounterexample, counterexamples}

-- what is accepted is in range
is_counterexample : (p : SheetPoint) → (sheet_of p.w p.m p.v).refusal ≡ 0 → 1 ≤ size_column_of p.w p.v → SheetPointHolds p → p.figures.size_column < p.figures.column
    → exact_column p.w p.m p.v ≡ p.figures.column → IsCounterexample p
is_counterexample p accepted size sheet above exact =
    record {
      of_the_claim = record { in_range = ((refused_exactly_when p.w p.m p.v).none.0 accepted).0; pair_large_enough = size };
      sheet = sheet;
      above = above;
      exact = exact;
    }

pub counterexamples_hold : Each IsCounterexample counterexamples
unfolding sheet_figures sheet_with_size_column lines_with_size_column with_lines flag_of column_of column_by size_column_of area_of formula_of total_of saving_of run_of div_up
    exact_column exact_area exact_by whole_area half_width exact_slide friction mass_term speed_term exact_glide plus minus times divided
counterexamples_hold = (is_counterexample _ refl (lit≤ tt) refl (lit< tt) refl, (is_counterexample _ refl (lit≤ tt) refl (lit< tt) refl, tt))
