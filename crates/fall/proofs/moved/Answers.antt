use Rattle.fall.specs.Step.{drag_per_speed, slowing, next_horizontal, next_downward, next_fallen, next_state}
use Rattle.fall.proofs.Literals.{time_step_is, gravity_is}
use Rattle.fall.proofs.moved.Goals as goal

-- `moved` makes the next state of a state's speed, every operation in the definition's order.

pub returns : goal.returns
unfolding next_state next_fallen next_downward next_horizontal slowing drag_per_speed
returns c = simp (c.fallen_to.ensures, time_step_is, gravity_is) (cc)
