-- A line written into a lent buffer: what is answered and left, a law for each way out of the test of its length.
use Rattle.std.proofs.Common.{◌≡◌, ℕ, ◌<◌, ◌≤◌, List, ◌++◌, length, take, drop, arith, append_assoc, length-take, take-append-drop, lt-ltb, le-ltb, eq-eqb, ne_eqb}
use Rattle.std.proofs.lemmas.List.{drop-append-le}
use Rattle.std.specs.Array.{IsFirstChunk}
use Rattle.arithmetic.specs.Lists.{stored}
use Rattle.refusal.specs.Refusals.{first_refusal}
use Rattle.frame.specs.Layout.{frame_len}
use Rattle.frame.specs.Frame.{frame_line, refusal_line, printed, with_line, writing_tests, WritingContract}
use Rattle.frame.specs.declared.FrameFields.{FrameFields}

pub not_written : (line buffer : List ℕ) → length buffer < frame_len → WritingContract line buffer 15 buffer
unfolding with_line
not_written line buffer short = record { answers = simp (lt-ltb _ _ short); left = simp (lt-ltb _ _ short) }

-- a long buffer: what is answered and what is left
pub written_answers : (buffer : List ℕ) → frame_len ≤ length buffer → 0 ≡ first_refusal (writing_tests buffer)
written_answers buffer h = simp (le-ltb _ _ h)

pub written_left : (line buffer : List ℕ) → frame_len ≤ length buffer → with_line line buffer ≡ stored 0 line buffer
unfolding with_line
written_left line buffer h = simp (le-ltb _ _ h)

pub line_written : (line buffer : List ℕ) {after : List ℕ} → frame_len ≤ length buffer → after ≡ stored 0 line buffer → WritingContract line buffer 0 after
line_written line buffer h e = record { answers = written_answers buffer h; left = rw (written_left line buffer h) e }

-- the same where the first part, as long as a frame, was lent
pub chunk_long : (buffer chunk : List ℕ) → IsFirstChunk buffer chunk frame_len → length chunk ≡ frame_len
chunk_long buffer chunk long = let enough : frame_len ≤ length buffer = long.enough in rw long.same (simp length-take (omega arith))

pub chunk_written : (line buffer : List ℕ) {chunk after : List ℕ} → IsFirstChunk buffer chunk frame_len → length line ≤ frame_len → after ≡ stored 0 line chunk
    → WritingContract line buffer 0 (after ++ drop frame_len buffer)
chunk_written line buffer {chunk} long short e =
    let enough : frame_len ≤ length buffer = long.enough in
    let part : length line ≤ length (take frame_len buffer) = simp length-take (omega arith) in
    line_written line buffer enough
    (rw (e, long.same, append_assoc line (drop (length line) (take frame_len buffer)) (drop frame_len buffer), ← (drop-append-le (length line) (take frame_len buffer) (drop frame_len buffer) part), take-append-drop frame_len buffer))

-- what is printed, by the refusal number
pub printed_refusal : (refusal : ℕ) (f : FrameFields) → (refusal ≡ 0 → ⊥) → printed refusal f ≡ refusal_line refusal
unfolding printed
printed_refusal refusal f h = rw (ne_eqb refusal 0 h)

pub printed_fields_lem : (refusal : ℕ) (f : FrameFields) → refusal ≡ 0 → printed refusal f ≡ frame_line f
unfolding printed
printed_fields_lem refusal f h = rw (eq-eqb refusal 0 h)
