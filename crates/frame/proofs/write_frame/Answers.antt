use Rattle.std.proofs.Common.{◌≡◌, length, length-append, arith}
use Rattle.hex_text.proofs.DigitLaws.{length_digits}
use Rattle.frame.specs.Layout.{frame_len}
use Rattle.frame.specs.Frame.{frame_line}
use Rattle.frame.proofs.FrameLawHolds.{frame_long}
use Rattle.frame.proofs.WaysOut.{not_written, chunk_long, chunk_written, printed_refusal, printed_fields_lem}
use Rattle.frame.proofs.write_frame.Goals as goal

pub returns-then-refusal-ne0 : goal.returns-then-refusal-ne0
returns-then-refusal-ne0 c =
    rw (printed_refusal _ _ c.if-refusal-ne0.true) c.write_refusal.ensures

pub returns-in_default : goal.returns-in_default
returns-in_default c = not_written _ _ c.in_default.ensures.cases

pub write_line-requires : goal.write_line-requires
write_line-requires c =
    let long : length c.in-Some.frame.now ≡ frame_len = chunk_long c.args.buffer.now c.in-Some.frame.now c.in-Some.ensures.cases in
    rw c.frame_fields.ensures (simp (length-append, length_digits) (omega arith))

pub returns : goal.returns
unfolding frame_line
returns c =
    rw (printed_fields_lem _ _ c.if-refusal-ne0.false) (chunk_written _ _ c.in-Some.ensures.cases (omega (arith, frame_long c.args.fields)) (rw c.frame_fields.ensures at c.write_line.ensures))
