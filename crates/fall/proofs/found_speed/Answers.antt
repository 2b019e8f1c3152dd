use mathlib.Core.Path.{sym, ◌∙◌}
use Rattle.fall.proofs.found_speed.Goals as goal

-- `found_speed` finds the state's speed, or takes one that was found from the same two numbers.

pub returns : goal.returns
returns c = (
  sym (c.same_above_zero.ensures.same c.if-same_above_zero.true) ∙ c.squares-squares.ensures,
  sym (c.same_above_zero-2.ensures.same c.if-same_above_zero-2.true) ∙ c.first_guess-first_guess.ensures,
)
