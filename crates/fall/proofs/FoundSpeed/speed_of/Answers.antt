use mathlib.Core.Path.{refl, sym, ◌∙◌}
use Rattle.fall.specs.Step.{speed_of}
use Rattle.fall.proofs.Literals.{zero_is}
use Rattle.fall.proofs.FloatLaws.{speed_by_rounds}
use Rattle.fall.proofs.FoundSpeed.speed_of.Goals as goal

-- `speed_of` takes the six rounds, or 0 where both speeds are 0.

pub returns-then-s : goal.returns-then-s
unfolding speed_of
returns-then-s c = simp (sym zero_is, c.if-s.true)

pub returns-else-s : goal.returns-else-s
returns-else-s c = speed_by_rounds c.args.s (simp (sym zero_is) c.if-s.false) (c.args.self.is_found ∙ rw (c.requires.0, c.requires.1) refl)
