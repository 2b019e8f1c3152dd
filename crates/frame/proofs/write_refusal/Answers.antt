use Rattle.std.proofs.Common.{◌≡◌, length, length-append, arith}
use Rattle.hex_text.proofs.DigitLaws.{length_digits}
use Rattle.frame.specs.Layout.{frame_len}
use Rattle.frame.specs.Frame.{refusal_line}
use Rattle.frame.proofs.FrameLawHolds.{refusal_long}
use Rattle.frame.proofs.WaysOut.{not_written, chunk_long, chunk_written}
use Rattle.frame.proofs.write_refusal.Goals as goal

pub returns-in_default : goal.returns-in_default
returns-in_default c = not_written _ _ c.in_default.ensures.cases

pub write_line-requires : goal.write_line-requires
unfolding refusal_line
write_line-requires c = let long : length c.in-Some.line.now ≡ frame_len = chunk_long c.args.buffer.now c.in-Some.line.now c.in-Some.ensures.cases in simp (length-append, length_digits) (omega arith)

pub returns : goal.returns
unfolding refusal_line
returns c = chunk_written _ _ c.in-Some.ensures.cases (omega (arith, refusal_long c.args.refusal)) c.write_line.ensures
