-- Laws of one block: what was written is accepted and read, and what is read of accepted lines is what stands there.
use Rattle.std.proofs.Common.{◌≡◌, ℕ, suc, ◌+◌, ◌-◌, ◌*◌, ◌<◌, ◌≤◌, true, leb, List, [], ◌∷◌, length, refl, ap, add-one, arith, length-append, drop-cons, le-leb, leb-true}
use Rattle.arithmetic.specs.Lists.{every, part}
use Rattle.arithmetic.proofs.TestLaws.{both}
use Rattle.arithmetic.proofs.ListLaws.{length_joined, every_at, every_all}
use Rattle.arithmetic.proofs.PartLaws.{PartIs, whole_part, part_whole, parts_joined, part_left, part_right, part_at, joined_is, joined_part, within, part_ends}
use Rattle.hex_text.specs.Digits.{field, written, Fit, line_end, is_line}
use Rattle.hex_text.specs.Blocks.{Block, sum, line_digits, line_length, block_length, line_start, each_is_line, are_lines, is_block, fields_at, values_at, with_values, line_fields, line_text, block_text, BlockFits}
use Rattle.hex_text.proofs.DigitLaws.{number_below}
use Rattle.hex_text.proofs.LineLaws.{line_of, line_at}
use Rattle.hex_text.proofs.FieldLaws.{width, Read, length_written, digits_written, fields_read, fields_are}

-- fields and their values

width_sum : (ws vs : List ℕ) (i : ℕ) → width (with_values ws vs i) ≡ sum ws
width_sum [] vs i = refl
width_sum (w ∷ ws) vs i = ap (λ (n : ℕ). w + n) (width_sum ws vs (i + 1))

pub length_fields : (ws s : List ℕ) (a : ℕ) → length (fields_at ws s a) ≡ length ws
length_fields [] s a = refl
length_fields (w ∷ ws) s a = ap suc (length_fields ws s (a + w))

-- the fields are read with the values from place i on exactly when these are what stands there
read_values : (ws vs s : List ℕ) (i a : ℕ) → i + length ws ≤ length vs → Read s a (with_values ws vs i) → PartIs vs i (length ws) (fields_at ws s a)
read_values [] vs s i a h r = record { is = refl; long = refl }
read_values (w ∷ ws) vs s i a h r =
    let rest = read_values ws vs s (i + 1) (a + w) (omega arith) r.1 in
    record {
      is = rw (drop-cons vs i 0 (omega arith), r.0, ← add-one, rest.is);
      long = length_fields (w ∷ ws) s a;
    }

values_read : (ws vs s : List ℕ) (i a : ℕ) → PartIs vs i (length ws) (fields_at ws s a) → Read s a (with_values ws vs i)
values_read [] vs s i a p = tt
values_read (w ∷ ws) vs s i a p =
    let here : i + 0 ≡ i = omega arith in
    let one : suc (length ws) ≡ 1 + length ws = omega arith in (
      rw here at (part_at vs i (suc (length ws)) (fields_at (w ∷ ws) s a) 0 (omega arith) p),
      values_read ws vs s (i + 1) (a + w) (part_right vs i 1 (length ws) (field s a w ∷ []) (fields_at ws s (a + w)) (rw one at p) refl),
    )

-- the fields of a part
fields_within : (ws s : List ℕ) (a n i : ℕ) → i + sum ws ≤ n → fields_at ws (part s a (a + n)) i ≡ fields_at ws s (a + i)
fields_within [] s a n i h = refl
fields_within (w ∷ ws) s a n i h =
    let wide : a + n - a ≡ n = omega arith in
    let width : i + w - i ≡ w = omega arith in
    let width' : a + i + w - (a + i) ≡ w = omega arith in
    let next : a + (i + w) ≡ a + i + w = omega arith in
    let first : field (part s a (a + n)) i w ≡ field s (a + i) w = rw (wide, width, width', within s a n i w (omega arith)) in
    rw (first, fields_within ws s a n (i + w) (omega arith), next)

pub fields_part : (ws s : List ℕ) (a n : ℕ) → sum ws ≤ n → fields_at ws (part s a (a + n)) 0 ≡ fields_at ws s a
fields_part ws s a n h = let here : a + 0 ≡ a = omega arith in rw here at (fields_within ws s a n 0 (omega arith))

-- what is read fits
read_fit : (fs : List (ℕ × ℕ)) (s : List ℕ) (a : ℕ) → Read s a fs → Fit fs
read_fit [] s a r = tt
read_fit (f ∷ fs) s a r = (rw r.0 at (number_below f.0 (part s a (a + f.0))), read_fit fs s (a + f.0) r.1)

-- one block

module _ (b : Block) where
  -- the fields of a line
  abbrev m : ℕ
  m = length b.widths

  line_long : (vs : List ℕ) (k : ℕ) → length (line_text b vs k) ≡ line_length b
  unfolding line_text
  line_long vs k = simp (length-append, length_written, width_sum)

  line_accepted : (vs : List ℕ) (k : ℕ) → is_line (line_text b vs k) ≡ true
  unfolding line_text
  line_accepted vs k = line_of (written (line_fields b vs k)) (digits_written (line_fields b vs k))

  pub block_long : (vs : List ℕ) → length (block_text b vs) ≡ block_length b
  unfolding block_text
  block_long vs = length_joined (line_text b vs) (line_length b) (line_long vs) b.lines

  module _ (s : List ℕ) (a : ℕ) where
    module _ (vs : List ℕ) (inside : a + block_length b ≤ length s) (p : PartIs s a (block_length b) (block_text b vs)) where
      line_stands : (k : ℕ) → k < b.lines → PartIs s (line_start b a k) (line_length b) (line_text b vs k)
      unfolding block_text
      line_stands k l = joined_part (line_text b vs) (line_length b) s a (line_long vs) b.lines p k l

      -- what was written is accepted, and read
      pub block_accepted : is_block b s a ≡ true
      unfolding are_lines each_is_line
      block_accepted =
          rw (le-leb _ _ inside)
          (every_all _ b.lines
          (λ k l.
          let long : line_start b a k + line_length b - line_start b a k ≡ line_length b = omega arith in
          rw (long, (line_stands k l).is) (line_accepted vs k)))

      pub block_read : BlockFits b vs → values_at b s a ≡ vs
      unfolding values_at line_text
      block_read fits =
          part_whole vs _ (m * b.lines) fits.long
          (joined_is (λ k. fields_at b.widths s (line_start b a k)) m vs 0 b.lines
          (λ k l.
          let fs = line_fields b vs k in
          let stand = part_left s (line_start b a k) (width fs) 1 (written fs) line_end (rw (width_sum b.widths vs (m * k)) (line_stands k l)) (length_written fs) in
          let place : 0 + m * k ≡ m * k = omega arith in
          rw place (read_values b.widths vs s (m * k) (line_start b a k) (omega (arith, part_ends k b.lines m (length vs) l (omega (arith, fits.long)))) (fields_read fs s (line_start b a k) (fits.fit k l) stand))))

    values_long : length (values_at b s a) ≡ m * b.lines
    unfolding values_at
    values_long = length_joined (λ k. fields_at b.widths s (line_start b a k)) m (λ k. length_fields b.widths s (line_start b a k)) b.lines

    -- the values of line k
    pub line_part : (k : ℕ) → k < b.lines → PartIs (values_at b s a) (m * k) m (fields_at b.widths s (line_start b a k))
    unfolding values_at
    line_part k l =
        let place : 0 + m * k ≡ m * k = omega arith in
        rw place at (joined_part (λ k. fields_at b.widths s (line_start b a k)) m (values_at b s a) 0 (λ k. length_fields b.widths s (line_start b a k)) b.lines (whole_part (values_at b s a) (m * b.lines) values_long) k l)

    line_read : (k : ℕ) → k < b.lines → Read s (line_start b a k) (line_fields b (values_at b s a) k)
    line_read k l = values_read b.widths (values_at b s a) s (m * k) (line_start b a k) (line_part k l)

    -- what is read of an accepted block is what stands there
    pub block_back : is_block b s a ≡ true → PartIs s a (block_length b) (block_text b (values_at b s a))
    unfolding block_text line_text are_lines each_is_line
    block_back accepted =
        let tests = both (leb (a + block_length b) (length s)) (every (λ (k : ℕ). is_line (part s (line_start b a k) (line_start b a k + line_length b))) b.lines) accepted in
        let inside : a + block_length b ≤ length s = leb-true _ _ tests.0 in
        joined_is (line_text b (values_at b s a)) (line_length b) s a b.lines
        (λ k l.
        let fs = line_fields b (values_at b s a) k in
        let long : line_start b a k + line_length b - line_start b a k ≡ suc (line_digits b) = omega arith in
        let ends = part_ends k b.lines (line_length b) (block_length b) l (omega arith) in
        let line = line_at s (line_start b a k) (line_digits b) (omega arith) (rw long at (every_at (λ (k : ℕ). is_line (part s (line_start b a k) (line_start b a k + line_length b))) b.lines tests.1 k l)) in
        let same = width_sum b.widths (values_at b s a) (m * k) in
        parts_joined s (line_start b a k) (line_digits b) 1 (written fs) line_end
        (rw same at (fields_are fs s (line_start b a k) (rw same (omega arith)) (rw same line.digits) (line_read k l))) line.end)

    -- what is read of any bytes fits
    pub block_fits : BlockFits b (values_at b s a)
    block_fits = record { long = values_long; fit = λ k l. read_fit (line_fields b (values_at b s a) k) s (line_start b a k) (line_read k l) }
