-- `sheet` gives the sheet, or the refusal of the first range that is left.
use mathlib.Core.Path.{refl, ◌∙◌}
use Rattle.refusal.proofs.NumberLaws.{passed_on, number_nonzero}
use Rattle.refusal.proofs.RefusalLaws.{refused_before}
use Rattle.sheet.specs.Sheet.{lines_of, refused_sheet, accepted_sheet, range_tests, area_tests, sheet_with_size_column}
use Rattle.sheet.proofs.Aircraft.sheet.Goals as goal

pub returns-in_err-check_ranges : goal.returns-in_err-check_ranges
unfolding sheet_with_size_column
returns-in_err-check_ranges c =
    let a = c.args.self in
    let lines = lines_of a.dimension a.mass a.speed in
    passed_on accepted_sheet refused_sheet _ _ c.from_residual.ensures.1
    ∙ refused_before (accepted_sheet lines) refused_sheet (range_tests a.dimension a.mass a.speed) (area_tests lines) refl c.in_err-check_ranges.ensures (number_nonzero _)
