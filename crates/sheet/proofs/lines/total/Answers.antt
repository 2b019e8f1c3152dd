-- `total` gives line 5.
use mathlib.Core.Path.{ap₂}
use Rattle.columns.specs.Bracket.{bracket}
use Rattle.sheet.specs.Lines.{total_of}
use Rattle.sheet.proofs.lines.total.Goals as goal

pub returns : goal.returns
unfolding total_of
returns c = ap₂ bracket c.total_at-low.ensures c.total_at-high.ensures
