-- The block law: the text of blocks with values is accepted and read as those values, and an accepted text is the text of what is
-- read from it.
use Rattle.std.specs.Prelude.{◌≡◌, ℕ, true, List, length}
use Rattle.hex_text.specs.Blocks.{Block, blocks_length, are_blocks, blocks_at, blocks_text, blocks_of, BlocksFit}

pub record BlockLaw : Type 0 where
  -- a text of blocks is as long as they are, and has them
  pub text_long : (ps : List (Block × List ℕ)) → length (blocks_text ps) ≡ blocks_length (blocks_of ps)
  pub text_accepted : (ps : List (Block × List ℕ)) → are_blocks (blocks_of ps) (blocks_text ps) 0 ≡ true
  -- the values that were written are read
  pub values_read : (ps : List (Block × List ℕ)) → BlocksFit ps → blocks_at (blocks_of ps) (blocks_text ps) 0 ≡ ps
  -- an accepted text is the text of the values that are read from it; what is read of any bytes fits
  pub text_back : (bs : List Block) (s : List ℕ) → length s ≡ blocks_length bs → are_blocks bs s 0 ≡ true → blocks_text (blocks_at bs s 0) ≡ s
  pub values_fit : (bs : List Block) (s : List ℕ) → BlocksFit (blocks_at bs s 0)
