-- The frame law of specs/FrameLaw.antt holds.
use mathlib.Core.Path.{◌≡◌, refl, ap, sym, ◌∙◌}
use mathlib.Core.Bool.{Bool, true, false, cond}
use mathlib.Core.List.{List, ◌++◌, append_assoc}
use Prim.Native.Nat.{ℕ, ◌^◌, ◌<◌, ◌≤◌}
use native.Mathlib.Omega.{arith}
use lib.Dec.{eqb, ltb}
use lib.IntN.{ℤ, pos, negsuc}
use lib.ListN.{length, take, drop, length-append, length-drop}
use lib.Seq.{take_at, drop_at}
use borrow.Author.Tests.{le-ltb, ne_eqb, eqb-true, ltb-false}
use Rattle.arithmetic.proofs.PartLaws.{PartIs, whole_part, part_whole, part_left, parts_joined}
use Rattle.hex_text.specs.Digits.{field, written, is_line, line_end}
use Rattle.hex_text.proofs.DigitLaws.{length_digits}
use Rattle.hex_text.proofs.LineLaws.{line_at}
use Rattle.hex_text.proofs.FieldLaws.{length_written, fields_read, fields_are}
use Rattle.frame.specs.Layout.{refusal_width, class_width, frame_digits, frame_len, final_start}
use Rattle.frame.specs.Frame.{class_byte, frame_fields, frame_line, refusal_fields, refusal_line, printed, with_line, framed}
use Rattle.frame.specs.FrameLaw.{class_of, refusal_in, fields_in, ClassFits, FrameFits, Shows, FrameLaw}
use Rattle.frame.specs.declared.FrameFields.{FrameFields}

-- the class byte

class_back : (z : ℤ) → ClassFits z → class_of (class_byte z) ≡ z
class_back (pos n) h = rw (ne_eqb n 255 (λ e. omega arith))
class_back (negsuc n) h = rw h

class_below : (z : ℤ) → ClassFits z → class_byte z < 16 ^ class_width
class_below (pos n) h = omega arith
class_below (negsuc n) h = omega arith

byte_back : (b : ℕ) → class_byte (class_of b) ≡ b
byte_back b = chosen (eqb b 255) refl
  where
    chosen : (t : Bool) → eqb b 255 ≡ t → class_byte (cond t (negsuc 0) (pos b)) ≡ b
    chosen true e = sym (eqb-true b 255 e)
    chosen false e = refl

-- lengths

pub frame_long : (f : FrameFields) → length (frame_line f) ≡ frame_len
unfolding frame_line
frame_long f = simp (length-append, length_digits)

pub refusal_long : (n : ℕ) → length (refusal_line n) ≡ 3
unfolding refusal_line
refusal_long n = simp (length-append, length_digits)

printed_short : (n : ℕ) (f : FrameFields) → length (printed n f) ≤ frame_len
unfolding printed
printed_short n f = chosen (eqb n 0)
  where
    chosen : (t : Bool) → length (cond t (frame_line f) (refusal_line n)) ≤ frame_len
    chosen true = omega (arith, frame_long f)
    chosen false = omega (arith, refusal_long n)

-- a buffer that is long enough
framed_long : (n : ℕ) (f : FrameFields) (b : List ℕ) → frame_len ≤ length b → framed n f b ≡ printed n f ++ drop (length (printed n f)) b
unfolding with_line
framed_long n f b h = rw (le-ltb (length b) frame_len h)

fields_shown : (f : FrameFields) (b : List ℕ) → frame_len ≤ length b → FrameFits f → Shows (framed 0 f b) f
unfolding printed frame_line
fields_shown f b h fits =
    let t = framed 0 f b in
    let line : PartIs t 0 frame_len (frame_line f) = record { is = ap (take frame_len) (framed_long 0 f b h) ∙ take_at (frame_line f) (drop (length (frame_line f)) b) frame_len (frame_long f); long = frame_long f } in
    let stand = part_left t 0 frame_digits 1 (written (frame_fields f)) line_end line (length_written (frame_fields f)) in
    let r =
    fields_read (frame_fields f) t 0
    (omega arith, (fits.low, (fits.high, (fits.column, (fits.flag, (fits.size_column, (fits.row_used, (fits.place, (fits.people, (fits.intrinsic, (class_below f.final_class fits.final_class, tt)))))))))))
    stand in
    let s = r.1.1.1.1.1 in
    record {
      accepted = r.0;
      fields = rw (r.1.0, r.1.1.0, r.1.1.1.0, r.1.1.1.1.0, s.0, s.1.0, s.1.1.0, s.1.1.1.0, s.1.1.1.1.0, s.1.1.1.1.1.0, class_back f.final_class fits.final_class);
    }

refusal_shown : (n : ℕ) (f : FrameFields) (b : List ℕ) → frame_len ≤ length b → (n ≡ 0 → ⊥) → n < 16 ^ refusal_width → refusal_in (framed n f b) ≡ n
unfolding printed refusal_line
refusal_shown n f b h some fits =
    let fs = refusal_fields n in
    let rest = line_end ++ drop (length (printed n f)) b in
    let is : framed n f b ≡ written fs ++ rest = framed_long n f b h ∙ rw (ne_eqb n 0 some, append_assoc) in
    let stand : PartIs (framed n f b) 0 refusal_width (written fs) = record { is = ap (take refusal_width) is ∙ take_at (written fs) rest refusal_width (length_written fs); long = length_written fs } in
    (fields_read fs (framed n f b) 0 (fits, tt) stand).0

frame_back : (t : List ℕ) → length t ≡ frame_len → is_line t ≡ true → refusal_in t ≡ 0 → frame_line (fields_in t) ≡ t
unfolding frame_line
frame_back t long line none =
    let l = line_at t 0 frame_digits (omega arith) (rw (whole_part t frame_len long).is line) in
    let stand =
    fields_are (frame_fields (fields_in t)) t 0 (omega arith) l.digits
    (none, (refl, (refl, (refl, (refl, (refl, (refl, (refl, (refl, (refl, (sym (byte_back (field t final_start class_width)), tt))))))))))) in
    part_whole t (frame_line (fields_in t)) frame_len long (parts_joined t 0 frame_digits 1 (written (frame_fields (fields_in t))) line_end stand l.end)

module _ (n : ℕ) (f : FrameFields) (b : List ℕ) where
  rest_kept : drop (length (printed n f)) (framed n f b) ≡ drop (length (printed n f)) b
  unfolding with_line
  rest_kept = chosen (ltb (length b) frame_len)
    where
      chosen : (t : Bool) → drop (length (printed n f)) (cond t b (printed n f ++ drop (length (printed n f)) b)) ≡ drop (length (printed n f)) b
      chosen true = refl
      chosen false = drop_at (printed n f) (drop (length (printed n f)) b) (length (printed n f)) refl

  length_kept : length (framed n f b) ≡ length b
  unfolding with_line
  length_kept = chosen (ltb (length b) frame_len) refl
    where
      chosen : (t : Bool) → ltb (length b) frame_len ≡ t → length (cond t b (printed n f ++ drop (length (printed n f)) b)) ≡ length b
      chosen true e = refl
      chosen false e =
          simp (length-append, length-drop) (omega (arith, ltb-false (length b) frame_len e, printed_short n f))

pub frame_law : FrameLaw
frame_law =
    record {
      frame_long = frame_long;
      refusal_long = refusal_long;
      fields_shown = fields_shown;
      refusal_shown = refusal_shown;
      frame_back = frame_back;
      rest_kept = rest_kept;
      length_kept = length_kept;
    }
