-- The printed frame of document 01, with the size column of document 02, item 1.
use Rattle.std.specs.Prelude.{ℕ, ◌≡◌, Bool, cond, List, [], ◌∷◌, ◌++◌, eqb, ltb, ℤ, pos, negsuc, length}
use Rattle.arithmetic.specs.Lists.{stored}
use Rattle.refusal.specs.Refusals.{Test, ◌when◌, first_refusal, answered}
use Rattle.hex_text.specs.Digits.{written, line_end}
use Rattle.frame.specs.Layout.{refusal_width, area_width, column_width, flag_width, size_column_width, row_width, place_width, people_width, class_width, frame_len}
use Rattle.frame.specs.declared.FrameFields.{FrameFields}

-- a final class as a byte: "−1 is ff", and it is the only negative one
abbrev pub class_byte : ℤ → ℕ
class_byte (pos n) = n
class_byte (negsuc n) = 255

-- the fields in their order, each a width and a value: "00; low 8; high 8; column 2; flag 2; table row used 2; place 4;
-- people 8; intrinsic class 2; final class 2", and "two digits for it after the flag", the size column (document 02, item 1)
abbrev pub frame_fields : FrameFields → List (ℕ × ℕ)
frame_fields f =
    (refusal_width, 0) ∷ (area_width, f.low) ∷ (area_width, f.high) ∷ (column_width, f.column) ∷ (flag_width, f.flag)
    ∷ (size_column_width, f.size_column) ∷ (row_width, f.row_used) ∷ (place_width, f.place) ∷ (people_width, f.people)
    ∷ (class_width, f.intrinsic) ∷ (class_width, class_byte f.final_class) ∷ []

-- 42 digits and a line end
unfoldable pub frame_line : FrameFields → List ℕ
frame_line f = written (frame_fields f) ++ line_end

-- "A refused case gives its number as two digits and a line end instead."
abbrev pub refusal_fields : ℕ → List (ℕ × ℕ)
refusal_fields n = (refusal_width, n) ∷ []

unfoldable pub refusal_line : ℕ → List ℕ
refusal_line n = written (refusal_fields n) ++ line_end

-- what is printed of a case with this refusal number, 0 where there is none
unfoldable pub printed : ℕ → FrameFields → List ℕ
printed refusal f = cond (eqb refusal 0) (frame_line f) (refusal_line refusal)

-- "15 a buffer shorter than 41 bytes, for refused cases too"; "refusal 15 now speaks of 43 bytes" (document 02, item 1)
abbrev pub buffer_too_short : List ℕ → Bool
buffer_too_short buffer = ltb (length buffer) frame_len

abbrev pub writing_tests : List ℕ → List Test
writing_tests buffer = 15 when buffer_too_short buffer ∷ []

-- the buffer with a line at its start; "nothing written" where it is refused; "bytes after the last one written keep their content"
unfoldable pub with_line : List ℕ → List ℕ → List ℕ
with_line line buffer = answered (writing_tests buffer) (stored 0 line buffer) (λ _. buffer)

-- the buffer after a case with this refusal number, 0 where there is none
abbrev pub framed : ℕ → FrameFields → List ℕ → List ℕ
framed refusal f buffer = with_line (printed refusal f) buffer

-- all that the writing of a line answers and alters
pub record WritingContract (line buffer : List ℕ) (answer : ℕ) (after : List ℕ) : Type 0 where
  pub answers : answer ≡ first_refusal (writing_tests buffer)
  pub left : after ≡ with_line line buffer
