-- Laws of a lent list that is filled with the values of a block, one line after the other.
use Rattle.std.proofs.Common.{◌≡◌, ℕ, ◌+◌, ◌-◌, ◌*◌, ◌<◌, ◌≤◌, List, [], ◌∷◌, length, set, ◌∙◌, add-one, arith}
use borrow.Rule.Slice.PartMut.{put_mid}
use Rattle.arithmetic.specs.Lists.{joined, part}
use Rattle.arithmetic.proofs.PartLaws.{Filled, store_next, filled_all, row_none, row_next}
use Rattle.hex_text.specs.Digits.{field}
use Rattle.hex_text.specs.Blocks.{Block, line_digits, line_start, fields_at, values_at}
use Rattle.hex_text.proofs.BlockLaws.{length_fields, fields_part}

-- the first k lines of a block
abbrev pub first_lines : Block → ℕ → Block
first_lines b k = record { lines = k; widths = b.widths }

-- `b` holds the values of the first k lines of the block that stands in s from place a on, and then what `old` had
abbrev pub FilledLines : Block → List ℕ → ℕ → ℕ → List ℕ → List ℕ → Type 0
FilledLines block s a k old b = Filled old (length block.widths * k) (values_at (first_lines block k) s a) b

module _ (block : Block) (s : List ℕ) (a : ℕ) (old : List ℕ) where
  pub lines_none : FilledLines block s a 0 old old
  unfolding values_at
  lines_none = row_none (length block.widths) (λ k. fields_at block.widths s (line_start block a k)) old

  -- the digits of line k and the part for its values were lent, and the part comes back as d
  pub lines_next : (k : ℕ) (b d : List ℕ) → length block.widths * k + length block.widths ≤ length old → FilledLines block s a k old b
      → d ≡ fields_at block.widths (part s (line_start block a k) (line_start block a k + line_digits block)) 0
      → FilledLines block s a (k + 1) old (put_mid (length block.widths * k) (length block.widths * k + length block.widths - length block.widths * k) b d)
  unfolding values_at
  lines_next k b d h f e =
      row_next (length block.widths) k (λ k. fields_at block.widths s (line_start block a k)) old b d h f (length_fields block.widths s (line_start block a k))
      (e ∙ fields_part block.widths s (line_start block a k) (line_digits block) (omega arith))

  pub lines_all : length old ≡ length block.widths * block.lines → (b : List ℕ) → FilledLines block s a block.lines old b → b ≡ values_at block s a
  lines_all h b f = filled_all (omega arith) f

-- one field a line: the number of line k was stored

module _ (n w : ℕ) (s : List ℕ) (a : ℕ) (old : List ℕ) where
  abbrev one_field : Block
  one_field = record { lines = n; widths = w ∷ [] }

  pub field_next : (k x : ℕ) (b : List ℕ) → k < length old → FilledLines one_field s a k old b → x ≡ field s (line_start one_field a k) w → FilledLines one_field s a (k + 1) old (set b k x)
  unfolding values_at joined
  field_next k x b h f e =
      let one : 1 * k ≡ k = omega arith in
      let next : 1 * (k + 1) ≡ k + 1 = omega arith in
      rw (next, e, add-one k) (rw (add-one k) at (store_next (field s (line_start one_field a k) w) h (rw one at f)))
