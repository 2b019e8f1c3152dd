use mathlib.Core.Path.{◌≡◌}
use mir.Syntax.{w8}
use mir.Val.{of_z, to_z}
use mir.ValLaws.{to_z-of_z}
use Rattle.ground_risk_case.proofs.printed_fields.Goals as goal

-- `printed_fields` gives the printed fields of a ground risk: the final class is an i8 already.

pub returns : goal.returns
returns c =
    let last : to_z w8 (of_z w8 c.args.risk.final_class) ≡ c.args.risk.final_class = to_z-of_z w8 c.args.risk.final_class (search) in rw last
