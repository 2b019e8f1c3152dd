-- House text in blocks: a block is lines of fields with given widths, and a text is blocks, one after the other.
use Rattle.std.specs.Prelude.{◌≡◌, ℕ, ◌+◌, ◌*◌, ◌<◌, Bool, true, ◌&&◌, List, [], ◌∷◌, ◌++◌, length, take, nat_le, slice_index}
use Rattle.arithmetic.specs.Lists.{every, joined, part}
use Rattle.hex_text.specs.Digits.{field, written, Fit, line_end, is_line}

-- so many lines, and the width in digits of each field of a line
pub record Block : Type 0 where
  pub lines : ℕ
  pub widths : List ℕ

-- the digits of a line, its bytes with the line end, and the bytes of a block
abbrev pub sum : List ℕ → ℕ
sum [] = 0
sum (w ∷ ws) = w + sum ws

abbrev pub line_digits : Block → ℕ
line_digits b = sum b.widths

abbrev pub line_length : Block → ℕ
line_length b = line_digits b + 1

abbrev pub block_length : Block → ℕ
block_length b = line_length b * b.lines

-- where line k starts, of a block that starts at place a
abbrev pub line_start : Block → ℕ → ℕ → ℕ
line_start b a k = a + line_length b * k

-- in s, from place a on, each of n parts of so many bytes is a line; and these parts lie within s
unfoldable pub each_is_line : List ℕ → ℕ → ℕ → ℕ → Bool
each_is_line s a each n = every (λ k. is_line (part s (a + each * k) (a + each * k + each))) n

unfoldable pub are_lines : List ℕ → ℕ → ℕ → ℕ → Bool
are_lines s a each n = nat_le (a + each * n) (length s) && each_is_line s a each n

abbrev pub is_block : Block → List ℕ → ℕ → Bool
is_block b s a = are_lines s a (line_length b) b.lines

-- what stands in s from place a on: the numbers in fields of these widths; those in a block's lines, one line after the other
abbrev pub fields_at : List ℕ → List ℕ → ℕ → List ℕ
fields_at [] s a = []
fields_at (w ∷ ws) s a = field s a w ∷ fields_at ws s (a + w)

unfoldable pub values_at : Block → List ℕ → ℕ → List ℕ
values_at b s a = joined (λ k. fields_at b.widths s (line_start b a k)) b.lines

-- what is written of values: each width with its value, the first that of place i; the line k; the block
abbrev pub with_values : List ℕ → List ℕ → ℕ → List (ℕ × ℕ)
with_values [] vs i = []
with_values (w ∷ ws) vs i = (w, slice_index vs i) ∷ with_values ws vs (i + 1)

abbrev pub line_fields : Block → List ℕ → ℕ → List (ℕ × ℕ)
line_fields b vs k = with_values b.widths vs (length b.widths * k)

unfoldable pub line_text : Block → List ℕ → ℕ → List ℕ
line_text b vs k = written (line_fields b vs k) ++ line_end

unfoldable pub block_text : Block → List ℕ → List ℕ
block_text b vs = joined (line_text b vs) b.lines

-- the values are as many as the block's fields, and none has more digits than its field
pub record BlockFits (b : Block) (vs : List ℕ) : Type 0 where
  pub long : length vs ≡ length b.widths * b.lines
  pub fit : (k : ℕ) → k < b.lines → Fit (line_fields b vs k)

-- Blocks, one after the other: how long they are, and where block i starts.
abbrev pub blocks_length : List Block → ℕ
blocks_length [] = 0
blocks_length (b ∷ bs) = block_length b + blocks_length bs

abbrev pub block_start : List Block → ℕ → ℕ
block_start bs i = blocks_length (take i bs)

-- s has these blocks from place a on
abbrev pub are_blocks : List Block → List ℕ → ℕ → Bool
are_blocks [] s a = true
are_blocks (b ∷ bs) s a = is_block b s a && are_blocks bs s (a + block_length b)

-- each block with the values that stand in s from place a on
abbrev pub blocks_at : List Block → List ℕ → ℕ → List (Block × List ℕ)
blocks_at [] s a = []
blocks_at (b ∷ bs) s a = (b, values_at b s a) ∷ blocks_at bs s (a + block_length b)

-- the text of blocks with their values, the blocks alone, and values that fit
abbrev pub blocks_text : List (Block × List ℕ) → List ℕ
blocks_text [] = []
blocks_text (p ∷ ps) = block_text p.0 p.1 ++ blocks_text ps

abbrev pub blocks_of : List (Block × List ℕ) → List Block
blocks_of [] = []
blocks_of (p ∷ ps) = p.0 ∷ blocks_of ps

abbrev pub BlocksFit : List (Block × List ℕ) → Type 0
BlocksFit [] = Unit {0}
BlocksFit (p ∷ ps) = BlockFits p.0 p.1 × BlocksFit ps
