use mathlib.Core.Path.{sym}
use Rattle.arithmetic.proofs.TestLaws.{both}
use Rattle.fall.proofs.Literals.{zero_is}
use Rattle.descent.proofs.Course.steps_ahead.Goals as goal

-- `steps_ahead` steps on from a state that falls.

pub confirmed_steps-requires : goal.confirmed_steps-requires
confirmed_steps-requires c = (c.requires, rw (sym zero_is) (both _ _ (both _ _ c.if-from-falls_faster.true).1).0)
