use Rattle.fall.specs.Step.{drag_per_speed, slowing, next_horizontal, next_downward}
use Rattle.fall.proofs.Literals.{time_step_is, gravity_is}
use Rattle.fall.proofs.lanes.next_speeds.Goals as goal

-- `next_speeds` makes the next speeds of each state, every operation in the definition's order.

pub returns : goal.returns
unfolding next_horizontal next_downward slowing drag_per_speed
returns c = (simp (c.requires.0, c.requires.1, time_step_is), simp (c.requires.0, c.requires.1, time_step_is, gravity_is))
