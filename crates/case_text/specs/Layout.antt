-- The layout of a case text: its blocks in their order, each so many lines of fields with their widths in digits. Places and lengths are
-- sums over them.
use Rattle.std.specs.Prelude.{ℕ, List, [], ◌∷◌, replicate}
use Rattle.hex_text.specs.Blocks.{Block, blocks_length, block_start}
-- "64 rows of 64 cells": the counts and the marks that are lent
pub use Rattle.map.specs.Size.{map_rows, map_columns, map_cells}

-- "Line 1 has 38 digits: dimension 8, mass 8, speed 8, cell area 8, controlled mark 2, mitigation word 4."
abbrev pub dimension_width : ℕ
dimension_width = 8

abbrev pub mass_width : ℕ
mass_width = 8

abbrev pub speed_width : ℕ
speed_width = 8

abbrev pub cell_area_width : ℕ
cell_area_width = 8

abbrev pub controlled_width : ℕ
controlled_width = 2

abbrev pub word_width : ℕ
word_width = 4

abbrev pub line1 : Block
line1 = record { lines = 1; widths = dimension_width ∷ mass_width ∷ speed_width ∷ cell_area_width ∷ controlled_width ∷ word_width ∷ [] }

-- "Then 64 lines of 16 digits, the footprint, and 64 lines of 512 digits, eight a count."
abbrev pub mark_width : ℕ
mark_width = 16

abbrev pub mark_lines : Block
mark_lines = record { lines = map_rows; widths = mark_width ∷ [] }

abbrev pub count_width : ℕ
count_width = 8

abbrev pub count_lines : Block
count_lines = record { lines = map_rows; widths = replicate map_columns count_width }

-- the whole text, and where the footprint and the counts start
abbrev pub case_blocks : List Block
case_blocks = line1 ∷ mark_lines ∷ count_lines ∷ []

abbrev pub marks_start : ℕ
marks_start = block_start case_blocks 1

abbrev pub counts_start : ℕ
counts_start = block_start case_blocks 2

-- "The whole is 33,959 bytes."
abbrev pub text_len : ℕ
text_len = blocks_length case_blocks
