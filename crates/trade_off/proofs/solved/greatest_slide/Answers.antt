-- `greatest_slide` solves line 6 for the slide.
use mathlib.Core.Path.{sym, ◌∙◌}
use denote.Enum.Bare.{same_true, same_false}
use Rattle.sheet.specs.contracts.Formula.{the_type}
use Rattle.trade_off.proofs.SolvedLaws.{too_large, any_slide, slide_left}
use Rattle.trade_off.proofs.solved.greatest_slide.Goals as goal

pub returns-then-sum-without_slide : goal.returns-then-sum-without_slide
returns-then-sum-without_slide c =
    too_large c.args.dimension c.args.limit c.of-formula.ensures (rw (c.tenths.ensures, c.sum_without_slide-without_slide.ensures) at c.if-sum-without_slide.true)

pub returns-then-eq : goal.returns-then-eq
returns-then-eq c =
    any_slide c.args.dimension c.args.limit c.of-formula.ensures (same_true the_type tt _ _ (sym c.eq.ensures ∙ c.if-eq.true))
    (rw (c.tenths.ensures, c.sum_without_slide-without_slide.ensures) at c.if-sum-without_slide.false)

pub returns : goal.returns
returns c =
    rw (c.min.ensures, c.tenths.ensures, c.sum_without_slide-without_slide.ensures)
    (slide_left c.args.dimension c.args.limit c.of-formula.ensures (same_false the_type _ _ (sym c.eq.ensures ∙ c.if-eq.false))
    (rw (c.tenths.ensures, c.sum_without_slide-without_slide.ensures) at c.if-sum-without_slide.false))
