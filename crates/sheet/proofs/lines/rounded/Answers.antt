-- `rounded` rounds the low end down and the high end up.
use mathlib.Core.Path.{refl}
use Rattle.arithmetic.specs.Rounding.{div_up}
use Rattle.sheet.proofs.lines.rounded.Goals as goal

pub returns : goal.returns
unfolding div_up
returns c = refl
