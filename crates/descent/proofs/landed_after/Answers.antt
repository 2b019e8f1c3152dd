use Rattle.fall.proofs.Literals.{three_is}
use Rattle.descent.proofs.landed_after.Goals as goal

-- `landed_after` gives the verdict of the end state.

pub returns : goal.returns
returns c = simp three_is
