-- The frame law: the fields of a printed frame are read back from its bytes, and no other frame has these bytes.
use Rattle.std.specs.Prelude.{ℕ, ◌^◌, ◌<◌, ◌≤◌, ◌≡◌, true, cond, List, eqb, ℤ, pos, negsuc, length, drop}
use Rattle.hex_text.specs.Digits.{field, is_line}
use Rattle.frame.specs.Layout.{refusal_width, area_width, column_width, flag_width, size_column_width, row_width, place_width, people_width, class_width, refusal_start, low_start, high_start, column_start, flag_start, size_column_start, row_start, place_start, people_start, intrinsic_start, final_start, frame_len}
use Rattle.frame.specs.Frame.{frame_line, refusal_line, printed, framed}
use Rattle.frame.specs.declared.FrameFields.{FrameFields}

-- the final class that a byte stands for: ff is −1
abbrev pub class_of : ℕ → ℤ
class_of b = cond (eqb b 255) (negsuc 0) (pos b)

-- the refusal number and the fields at their places
abbrev pub refusal_in : List ℕ → ℕ
refusal_in t = field t refusal_start refusal_width

abbrev pub fields_in : List ℕ → FrameFields
fields_in t =
    record {
      low = field t low_start area_width;
      high = field t high_start area_width;
      column = field t column_start column_width;
      flag = field t flag_start flag_width;
      size_column = field t size_column_start size_column_width;
      row_used = field t row_start row_width;
      place = field t place_start place_width;
      people = field t people_start people_width;
      intrinsic = field t intrinsic_start class_width;
      final_class = class_of (field t final_start class_width);
    }

-- a final class that its byte tells: −1, or 0 and up
abbrev pub ClassFits : ℤ → Type 0
ClassFits (pos n) = n < 255
ClassFits (negsuc n) = n ≡ 0

-- fields that have no more digits than their places
pub record FrameFits (f : FrameFields) : Type 0 where
  pub low : f.low < 16 ^ area_width
  pub high : f.high < 16 ^ area_width
  pub column : f.column < 16 ^ column_width
  pub flag : f.flag < 16 ^ flag_width
  pub size_column : f.size_column < 16 ^ size_column_width
  pub row_used : f.row_used < 16 ^ row_width
  pub place : f.place < 16 ^ place_width
  pub people : f.people < 16 ^ people_width
  pub intrinsic : f.intrinsic < 16 ^ class_width
  pub final_class : ClassFits f.final_class

-- the buffer b shows an accepted case with the fields f
pub record Shows (b : List ℕ) (f : FrameFields) : Type 0 where
  pub accepted : refusal_in b ≡ 0
  pub fields : fields_in b ≡ f

pub record FrameLaw : Type 0 where
  -- "refusal 15 now speaks of 43 bytes" (document 02, item 1): 42 digits and a line end; a refusal is "two digits and a line end"
  pub frame_long : (f : FrameFields) → length (frame_line f) ≡ 43
  pub refusal_long : (n : ℕ) → length (refusal_line n) ≡ 3
  -- a frame that was written shows its fields
  pub fields_shown : (f : FrameFields) (buffer : List ℕ) → frame_len ≤ length buffer → FrameFits f → Shows (framed 0 f buffer) f
  -- a refusal that was written shows its number
  pub refusal_shown : (refusal : ℕ) (f : FrameFields) (buffer : List ℕ) → frame_len ≤ length buffer → (refusal ≡ 0 → ⊥) → refusal < 16 ^ refusal_width
      → refusal_in (framed refusal f buffer) ≡ refusal
  -- a line as long as a frame that begins with 00 is the frame of the fields in it
  pub frame_back : (t : List ℕ) → length t ≡ frame_len → is_line t ≡ true → refusal_in t ≡ 0 → frame_line (fields_in t) ≡ t
  -- "bytes after the last one written keep their content", and the buffer keeps its length
  pub rest_kept : (refusal : ℕ) (f : FrameFields) (buffer : List ℕ) → drop (length (printed refusal f)) (framed refusal f buffer) ≡ drop (length (printed refusal f)) buffer
  pub length_kept : (refusal : ℕ) (f : FrameFields) (buffer : List ℕ) → length (framed refusal f buffer) ≡ length buffer
