use Rattle.arithmetic.specs.Lists.{joined}
use Rattle.hex_text.specs.Blocks.{values_at}
use Rattle.case_text.proofs.fill.head_of.Goals as goal

pub returns : goal.returns
unfolding values_at joined
returns c =
    rw (
      c.eight_at.ensures,
      c.eight_at-2.ensures,
      c.eight_at-3.ensures,
      c.eight_at-4.ensures,
      c.number_of_two.ensures,
      c.number_of_four.ensures,
    )
