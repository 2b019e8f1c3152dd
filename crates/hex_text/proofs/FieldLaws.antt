-- Laws of fields of given widths and values, written one after the other.
use Rattle.std.proofs.Common.{◌≡◌, ℕ, ◌+◌, ◌≤◌, List, [], ◌∷◌, ◌++◌, length, take, drop, refl, ap, ◌∙◌, append_assoc, append-nil, arith, length-append}
use borrow.Rule.Slice.PartMut.{put_mid, mid_of}
use Rattle.arithmetic.specs.Lists.{stored}
use Rattle.arithmetic.proofs.PartLaws.{PartIs, parts_joined, part_left, part_right, Filled, part_next, part_long, filled_from, filled_stored}
use Rattle.hex_text.specs.Digits.{field, digits, written, Fit}
use Rattle.hex_text.proofs.DigitLaws.{length_digits}
use Rattle.hex_text.proofs.LineLaws.{AllDigits, none, digits_append, digits_digits, digits_within, field_read, field_is}

abbrev pub width : List (ℕ × ℕ) → ℕ
width [] = 0
width (f ∷ fs) = f.0 + width fs

-- in s, from place a, these fields are read
abbrev pub Read : List ℕ → ℕ → List (ℕ × ℕ) → Type 0
Read s a [] = Unit {0}
Read s a (f ∷ fs) = (field s a f.0 ≡ f.1) × Read s (a + f.0) fs

pub length_written : (fs : List (ℕ × ℕ)) → length (written fs) ≡ width fs
length_written [] = refl
length_written (f ∷ fs) = simp (length-append, length_digits, length_written fs)

pub digits_written : (fs : List (ℕ × ℕ)) → AllDigits (written fs)
digits_written [] = none
digits_written (f ∷ fs) = digits_append (digits f.0 f.1) (written fs) (digits_digits f.0 f.1) (digits_written fs)

-- fields that stand there are read
pub fields_read : (fs : List (ℕ × ℕ)) (s : List ℕ) (a : ℕ) → Fit fs → PartIs s a (width fs) (written fs) → Read s a fs
fields_read [] s a b p = tt
fields_read (f ∷ fs) s a b p =
    let long = length_digits f.0 f.1 in (
      field_read s a f.0 f.1 b.0 (part_left s a f.0 (width fs) (digits f.0 f.1) (written fs) p long),
      fields_read fs s (a + f.0) b.1 (part_right s a f.0 (width fs) (digits f.0 f.1) (written fs) p long),
    )

-- fields that are read of digits stand there
pub fields_are : (fs : List (ℕ × ℕ)) (s : List ℕ) (a : ℕ) → a + width fs ≤ length s → AllDigits (take (width fs) (drop a s)) → Read s a fs → PartIs s a (width fs) (written fs)
fields_are [] s a h d r = record { is = refl; long = refl }
fields_are (f ∷ fs) s a h d r =
    let here : a + 0 ≡ a = omega arith in
    let first = field_is s a f.0 (omega arith) (rw here at (digits_within s a (f.0 + width fs) 0 f.0 (omega arith) d)) in
    let rest = fields_are fs s (a + f.0) (omega arith) (digits_within s a (f.0 + width fs) f.0 (width fs) (omega arith) d) r.1 in
    parts_joined s a f.0 (width fs) (digits f.0 f.1) (written fs) (rw r.0 at first) rest

-- A list whose parts for the fields are lent to the digit writer, one after the other.

-- what it holds when the parts have come back as ds
abbrev pub lent : ℕ → List (ℕ × ℕ) → List (List ℕ) → List ℕ → List ℕ
lent a [] ds b = b
lent a (f ∷ fs) [] b = b
lent a (f ∷ fs) (d ∷ ds) b = lent (a + f.0) fs ds (put_mid a f.0 b d)

-- each part has come back with its field's value
abbrev pub Returned : ℕ → List (ℕ × ℕ) → List (List ℕ) → List ℕ → Type 0
Returned a [] ds b = Unit {0}
Returned a (f ∷ fs) [] b = ⊥
Returned a (f ∷ fs) (d ∷ ds) b = (d ≡ digits (length (mid_of a f.0 b)) f.1) × Returned (a + f.0) fs ds (put_mid a f.0 b d)

fields_filled : (fs : List (ℕ × ℕ)) (ds : List (List ℕ)) (old : List ℕ) (a : ℕ) (done b : List ℕ)
    → a + width fs ≤ length old → Filled old a done b → Returned a fs ds b → Filled old (a + width fs) (done ++ written fs) (lent a fs ds b)
fields_filled [] ds old a done b h s r = let here : a + 0 ≡ a = omega arith in rw (here, append-nil) s
fields_filled (f ∷ fs) [] old a done b h s r = absurd r
fields_filled (f ∷ fs) (d ∷ ds) old a done b h s r =
    let next : a + (f.0 + width fs) ≡ a + f.0 + width fs = omega arith in
    let field = part_next f.0 (digits f.0 f.1) d (omega arith) s (length_digits f.0 f.1) (r.0 ∙ ap (λ (m : ℕ). digits m f.1) (part_long f.0 (omega arith) s)) in
    rw (next, ← (append_assoc done (digits f.0 f.1) (written fs)))
    (fields_filled fs ds old (a + f.0) (done ++ digits f.0 f.1) (put_mid a f.0 b d) (omega arith) field r.1)

-- the fields stand there, and nothing else has changed
pub fields_stored : (fs : List (ℕ × ℕ)) (ds : List (List ℕ)) (old : List ℕ) (a : ℕ) → a + width fs ≤ length old → Returned a fs ds old → lent a fs ds old ≡ stored a (written fs) old
fields_stored fs ds old a h r =
    let long = length_written fs in
    filled_stored a (written fs) (rw long (fields_filled fs ds old a (take a old) old h (filled_from old a (omega arith)) r))
