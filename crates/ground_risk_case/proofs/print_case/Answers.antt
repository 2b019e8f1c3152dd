use native.Mathlib.Omega.{arith}
use mathlib.Core.Path.{refl}
use Rattle.refusal.proofs.NumberLaws.{number_nonzero}
use Rattle.ground_risk_case.proofs.WaysOut.{refused_15, refused, accepted}
use Rattle.ground_risk_case.proofs.print_case.Goals as goal

-- `print_case` answers and leaves what the definitions say.

pub returns-then-frame-lt-FRAME_LENGTH : goal.returns-then-frame-lt-FRAME_LENGTH
returns-then-frame-lt-FRAME_LENGTH c = refused_15 _ _ (omega arith)

pub returns-in-Ok : goal.returns-in-Ok
returns-in-Ok c =
    accepted _ _ (omega arith) c.in-Ok.ensures.left c.in-Ok.ensures.answer refl c.printed_fields.ensures c.write_frame.ensures

pub returns-in_ok-write_refusal-in-Err : goal.returns-in_ok-write_refusal-in-Err
returns-in_ok-write_refusal-in-Err c =
    refused _ _ (omega arith) c.in-Err.ensures.left c.in-Err.ensures.answer (number_nonzero _) (rw c.into.ensures at c.write_refusal.ensures.left)
