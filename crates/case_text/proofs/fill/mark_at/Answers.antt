use native.Mathlib.Omega.{arith}
use Rattle.hex_text.proofs.DigitLaws.{field_split}
use Rattle.case_text.proofs.fill.mark_at.Goals as goal

pub returns : goal.returns
returns c =
    omega (arith, c.eight_at.ensures, c.eight_at-2.ensures, field_split c.args.text.now c.args.at 8 8)
