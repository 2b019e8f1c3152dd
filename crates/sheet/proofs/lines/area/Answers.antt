-- `area` gives line 6.
use mathlib.Core.Path.{◌∙◌}
use native.Mathlib.Omega.{arith}
use native.Mathlib.Nat.{mul-le-mul}
use Rattle.sheet.specs.Lines.{formula_of, full_width, glide_of}
use Rattle.sheet.proofs.AreaTenthsLaws.{tenths_at_most, area_in_tenths}
use Rattle.sheet.proofs.lines.area.Goals as goal

pub overflow_mul-tenths : goal.overflow_mul-tenths
overflow_mul-tenths c = omega (arith, mul-le-mul (tenths_at_most c.of-formula.result c.tenths-tenths.ensures) c.total_taken-taken.ensures.at_most.0)

pub overflow_mul-tenths-2 : goal.overflow_mul-tenths-2
overflow_mul-tenths-2 c = omega (arith, mul-le-mul (tenths_at_most c.of-formula.result c.tenths-tenths.ensures) c.total_taken-taken.ensures.at_most.1)

pub rounded-requires : goal.rounded-requires
rounded-requires c = omega (arith, mul-le-mul (tenths_at_most c.of-formula.result c.tenths-tenths.ensures) c.total_taken-taken.ensures.at_most.1)

pub returns : goal.returns
returns c =
    c.rounded.ensures
    ∙ rw (c.total_taken-taken.ensures.value, c.tenths-tenths.ensures, c.of-formula.ensures) (area_in_tenths (formula_of c.args.dimension) (full_width c.args.dimension) glide_of c.args.line5)
