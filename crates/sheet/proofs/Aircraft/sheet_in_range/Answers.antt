-- `sheet_in_range` gives the sheet of an aircraft within its ranges, or refusal 4.
use mathlib.Core.Path.{◌≡◌, ap, sym, ◌∙◌}
use native.Mathlib.Omega.{arith}
use Rattle.std.proofs.Common.{None}
use Rattle.std.specs.Option.{ok_or}
use Rattle.std.specs.Result.{result_ok}
use Rattle.refusal.specs.Numbers.{number_in}
use Rattle.refusal.specs.declared.Refusal.TheVariants.{Area}
use Rattle.refusal.proofs.NumberLaws.{passed_on}
use Rattle.sheet.specs.Sheet.{refused_sheet, accepted_sheet}
use Rattle.sheet.proofs.LinesMade.{slide_fits, total_fits, refused_4, accepted}
use Rattle.sheet.proofs.Aircraft.sheet_in_range.Goals as goal

pub total-total-requires : goal.total-total-requires
total-total-requires c = (
  omega arith,
  slide_fits c.args.self.mass c.args.self.speed c.run-run.ensures c.saving-saving.ensures c.slide-slide.ensures (omega arith),
)

pub area-area-requires : goal.area-area-requires
area-area-requires c = (
  omega arith,
  total_fits c.args.self.mass c.args.self.speed c.run-run.ensures c.saving-saving.ensures c.slide-slide.ensures c.args.self.dimension c.total-total.ensures (omega arith) (omega arith),
)

pub returns-in_err-found : goal.returns-in_err-found
returns-in_err-found c =
    let none : c.column_and_flag.result ≡ None = c.ok_or.ensures.ok_part ∙ ap result_ok c.in_err-found.was in
    let four = ap number_in (sym c.in_err-found.was ∙ c.ok_or.ensures.value ∙ ap (λ o. ok_or o Area) none) in
    passed_on accepted_sheet refused_sheet _ _ c.from_residual.ensures.1
    ∙ ap refused_sheet four
    ∙ refused_4 c.args.self.mass c.args.self.speed c.run-run.ensures c.saving-saving.ensures c.slide-slide.ensures c.args.self.dimension c.total-total.ensures c.area-area.ensures c.args.size_column c.requires (sym c.column_and_flag.ensures ∙ none)

pub returns : goal.returns
returns c =
    let some = c.ok_or.ensures.ok_part ∙ ap result_ok c.in_ok-found.was in
    accepted c.args.self.mass c.args.self.speed c.run-run.ensures c.saving-saving.ensures c.slide-slide.ensures c.args.self.dimension c.total-total.ensures c.area-area.ensures c.args.size_column c.requires (sym c.column_and_flag.ensures ∙ some)
