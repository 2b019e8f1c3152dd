use Rattle.fall.specs.Step.{next_guess}
use Rattle.fall.proofs.Literals.{half_is}
use Rattle.fall.proofs.next_guess.Goals as goal

-- `next_guess` makes one round.

pub returns : goal.returns
unfolding next_guess
returns c = simp half_is
