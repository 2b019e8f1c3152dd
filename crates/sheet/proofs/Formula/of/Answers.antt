-- `of` gives the formula that the dimension takes.
use mathlib.Core.Path.{sym}
use native.Mathlib.Omega.{arith}
use Rattle.sheet.proofs.FormulaLaws.{takes_whole, takes_six_tenths, takes_glide_only}
use Rattle.sheet.proofs.Formula.of.Goals as goal

pub returns-then-dimension-ge-WHOLE_FROM : goal.returns-then-dimension-ge-WHOLE_FROM
returns-then-dimension-ge-WHOLE_FROM c = sym (takes_whole _ (omega (arith, c.if-dimension-ge-WHOLE_FROM.true)))

pub returns-then-dimension-ge-SIX_TENTHS_FROM : goal.returns-then-dimension-ge-SIX_TENTHS_FROM
returns-then-dimension-ge-SIX_TENTHS_FROM c =
    sym (takes_six_tenths _ (omega (arith, c.if-dimension-ge-WHOLE_FROM.false)) (omega (arith, c.if-dimension-ge-SIX_TENTHS_FROM.true)))

pub returns-else-dimension-ge-SIX_TENTHS_FROM : goal.returns-else-dimension-ge-SIX_TENTHS_FROM
returns-else-dimension-ge-SIX_TENTHS_FROM c =
    sym (takes_glide_only _ (omega (arith, c.if-dimension-ge-WHOLE_FROM.false)) (omega (arith, c.if-dimension-ge-SIX_TENTHS_FROM.false)))
