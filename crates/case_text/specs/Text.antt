-- The reading of a case text: what its bytes say, what is refused, and what the lent buffers hold afterwards.
use Rattle.std.specs.Prelude.{ℕ, ◌≡◌, Bool, not, List, [], ◌∷◌, eqb, length, get_or, Result}
use Rattle.refusal.specs.Refusals.{Test, ◌when◌, first_refusal, answered}
use Rattle.refusal.specs.Numbers.{answer_as}
use Rattle.refusal.specs.declared.Refusal.{Refusal}
use Rattle.map.specs.Refusals.{wrong_lengths}
use Rattle.hex_text.specs.Blocks.{are_blocks, values_at}
use Rattle.case_text.specs.Layout.{line1, mark_lines, count_lines, case_blocks, marks_start, counts_start, text_len}
use Rattle.case_text.specs.declared.CaseHead.{CaseHead}
use Rattle.case_text.specs.declared.Reading.{Reading}

-- line 1 from the numbers in its fields, in their order
abbrev pub head_of_values : List ℕ → CaseHead
head_of_values vs =
    record {
      dimension = get_or vs 0 0;
      mass = get_or vs 1 0;
      speed = get_or vs 2 0;
      cell_area = get_or vs 3 0;
      controlled = get_or vs 4 0;
      word = get_or vs 5 0;
    }

-- the lent map buffers: a count a cell, and the marks of each footprint row
pub record MapBuffers : Type 0 where
  pub counts : List ℕ
  pub marks : List ℕ

-- what stands in a text: line 1, and what the map buffers are filled with
abbrev pub head_of : List ℕ → CaseHead
head_of t = head_of_values (values_at line1 t 0)

abbrev pub marks_of : List ℕ → List ℕ
marks_of t = values_at mark_lines t marks_start

abbrev pub counts_of : List ℕ → List ℕ
counts_of t = values_at count_lines t counts_start

abbrev pub map_buffers_of : List ℕ → MapBuffers
map_buffers_of t = record { counts = counts_of t; marks = marks_of t }

-- each byte is "a digit or line end in its place"
unfoldable pub is_text : List ℕ → Bool
is_text t = are_blocks case_blocks t 0

-- "13 length other than 33,959"
abbrev pub wrong_text_length : List ℕ → Bool
wrong_text_length t = not (eqb (length t) text_len)

-- "5 a lent count or footprint buffer of the wrong length"
abbrev pub wrong_buffer_length : MapBuffers → Bool
wrong_buffer_length lent = wrong_lengths lent.counts lent.marks

-- "14 a byte that isn't a digit or line end in its place"
abbrev pub wrong_byte : List ℕ → Bool
wrong_byte t = not (is_text t)

-- "Reading refusals", in the order tested
abbrev pub reading_tests : List ℕ → MapBuffers → List Test
reading_tests t lent =
    13 when wrong_text_length t
    ∷ 5 when wrong_buffer_length lent
    ∷ 14 when wrong_byte t
    ∷ []

-- the number of the first, 0 where there is none
unfoldable pub reading_refusal : List ℕ → MapBuffers → ℕ
reading_refusal t lent = first_refusal (reading_tests t lent)

-- the answer: the refusal number and line 1, all zeros where it is refused
abbrev pub no_head : CaseHead
no_head = record { dimension = 0; mass = 0; speed = 0; cell_area = 0; controlled = 0; word = 0 }

abbrev pub refused_reading : ℕ → Reading
refused_reading n = record { refusal = n; head = no_head }

abbrev pub accepted_head : CaseHead → Reading
accepted_head h = record { refusal = 0; head = h }

abbrev pub accepted_reading : List ℕ → Reading
accepted_reading t = accepted_head (head_of t)

-- what an answer of the code stands for: "a definition tells you this paper's number and values for each of its cases"
abbrev pub reading_answer : Result CaseHead Refusal → Reading
reading_answer = answer_as accepted_head refused_reading

unfoldable pub reading_of : List ℕ → MapBuffers → Reading
reading_of t lent = answered (reading_tests t lent) (accepted_reading t) refused_reading

-- what the map buffers hold afterwards: "a refused reading changes neither buffer"
unfoldable pub map_buffers_left : List ℕ → MapBuffers → MapBuffers
map_buffers_left t lent = answered (reading_tests t lent) (map_buffers_of t) (λ _. lent)

-- all that a reading answers and alters
pub record ReadingContract (text : List ℕ) (lent : MapBuffers) (reading : Reading) (after : MapBuffers) : Type 0 where
  pub answers : reading ≡ reading_of text lent
  pub left : after ≡ map_buffers_left text lent
