-- Printed lines that the papers show.
use Rattle.std.specs.Prelude.{ℕ, ◌≡◌, List, [], ◌∷◌, pos, negsuc}
use Rattle.hex_text.specs.Digits.{digits}
use Rattle.frame.specs.Layout.{class_width}
use Rattle.frame.specs.Frame.{class_byte, frame_line, refusal_line}
use Rattle.frame.specs.declared.FrameFields.{FrameFields}

-- the fields of P16, "worked again" (document 02, item 6), and its line `000001bf3e0001bf3f020001050000000000080605`, in it "01 at P16" (item 1)
-- after the flag, and the line end
abbrev pub p16_fields : FrameFields
p16_fields =
    record {
      low = 114494;
      high = 114495;
      column = 2;
      flag = 0;
      size_column = 1;
      row_used = 5;
      place = 0;
      people = 8;
      intrinsic = 6;
      final_class = pos 5;
    }

abbrev pub p16_line : List ℕ
p16_line =
    48 ∷ 48 ∷ 48 ∷ 48 ∷ 48 ∷ 49 ∷ 98 ∷ 102 ∷ 51 ∷ 101 ∷ 48 ∷ 48 ∷ 48 ∷ 49
    ∷ 98 ∷ 102 ∷ 51 ∷ 102 ∷ 48 ∷ 50 ∷ 48 ∷ 48 ∷ 48 ∷ 49 ∷ 48 ∷ 53 ∷ 48 ∷ 48 ∷ 48 ∷ 48
    ∷ 48 ∷ 48 ∷ 48 ∷ 48 ∷ 48 ∷ 48 ∷ 48 ∷ 56 ∷ 48 ∷ 54 ∷ 48 ∷ 53 ∷ 10 ∷ []

pub record WorkedLines : Type 0 where
  pub p16 : frame_line p16_fields ≡ p16_line
  -- "refusal 10 is 0a"
  pub refusal_10 : refusal_line 10 ≡ 48 ∷ 97 ∷ 10 ∷ []
  -- "−1 is ff"
  pub minus_one : digits class_width (class_byte (negsuc 0)) ≡ 102 ∷ 102 ∷ []
