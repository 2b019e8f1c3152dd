-- The text law, demand 2: "a case text that is read shows exactly the fields that stand in it". The text of given fields is read as those fields, and a text that is read is the text of what was read. So no
-- two texts read alike, and nothing in a text goes unread.
use Rattle.std.specs.Prelude.{ℕ, ◌^◌, ◌<◌, ◌≡◌, true, List, [], ◌∷◌, length, get_or}
use Rattle.hex_text.specs.Blocks.{Block, blocks_text}
use Rattle.case_text.specs.Layout.{dimension_width, mass_width, speed_width, cell_area_width, controlled_width, word_width, mark_width, count_width, line1, mark_lines, count_lines, map_rows, map_cells, text_len}
use Rattle.case_text.specs.Text.{MapBuffers, head_of, map_buffers_of, is_text}
use Rattle.case_text.specs.declared.CaseHead.{CaseHead}
use Rattle.case_text.specs.declared.Reading.{Reading}

-- the fields of a case text: line 1, and what it fills the map buffers with
pub record CaseFields : Type 0 where
  pub head : CaseHead
  pub buffers : MapBuffers

-- the numbers of line 1, in the order of its fields
abbrev pub head_values : CaseHead → List ℕ
head_values h = h.dimension ∷ h.mass ∷ h.speed ∷ h.cell_area ∷ h.controlled ∷ h.word ∷ []

-- the case text of given fields: each block with its values
abbrev pub blocks_with : CaseFields → List (Block × List ℕ)
blocks_with f = (line1, head_values f.head) ∷ (mark_lines, f.buffers.marks) ∷ (count_lines, f.buffers.counts) ∷ []

unfoldable pub text_of : CaseFields → List ℕ
text_of f = blocks_text (blocks_with f)

-- the fields that are read from a text
abbrev pub fields_of : List ℕ → CaseFields
fields_of t = record { head = head_of t; buffers = map_buffers_of t }

-- fields that have no more digits than their places, and are as many
pub record Fits (f : CaseFields) : Type 0 where
  pub dimension : f.head.dimension < 16 ^ dimension_width
  pub mass : f.head.mass < 16 ^ mass_width
  pub speed : f.head.speed < 16 ^ speed_width
  pub cell_area : f.head.cell_area < 16 ^ cell_area_width
  pub controlled : f.head.controlled < 16 ^ controlled_width
  pub word : f.head.word < 16 ^ word_width
  pub marks_length : length f.buffers.marks ≡ map_rows
  pub mark : (k : ℕ) → k < map_rows → get_or f.buffers.marks k 0 < 16 ^ mark_width
  pub counts_length : length f.buffers.counts ≡ map_cells
  pub count : (k : ℕ) → k < map_cells → get_or f.buffers.counts k 0 < 16 ^ count_width

-- the law over the definitions
pub record TextLaw : Type 0 where
  -- "The whole is 33,959 bytes", each a digit or a line end in its place
  pub text_long : (f : CaseFields) → length (text_of f) ≡ 33959
  pub text_accepted : (f : CaseFields) → is_text (text_of f) ≡ true
  -- the fields that were written are read
  pub fields_read : (f : CaseFields) → Fits f → fields_of (text_of f) ≡ f
  -- an accepted text is the text of the fields that are read from it, and these fit
  pub text_back : (t : List ℕ) → length t ≡ text_len → is_text t ≡ true → text_of (fields_of t) ≡ t
  pub fields_fit : (t : List ℕ) → Fits (fields_of t)
  -- so two accepted texts with the same fields are one
  pub one_text : (t u : List ℕ) → length t ≡ text_len → is_text t ≡ true → length u ≡ text_len → is_text u ≡ true → fields_of t ≡ fields_of u → t ≡ u

-- map buffers of the right lengths
pub record RightLengths (lent : MapBuffers) : Type 0 where
  pub counts_length : length lent.counts ≡ map_cells
  pub marks_length : length lent.marks ≡ map_rows

-- the law of one reading, in the words of its contract
pub record ReadingLaw (text : List ℕ) (lent : MapBuffers) (reading : Reading) (after : MapBuffers) : Type 0 where
  -- the text of fields that fit is accepted, and these fields are answered and stored
  pub written_read : (f : CaseFields) → Fits f → text ≡ text_of f → RightLengths lent → (reading ≡ record { refusal = 0; head = f.head }) × (after ≡ f.buffers)
  -- a text that is not refused is the text of what was answered and stored
  pub read_written : reading.refusal ≡ 0 → text_of (record { head = reading.head; buffers = after }) ≡ text
