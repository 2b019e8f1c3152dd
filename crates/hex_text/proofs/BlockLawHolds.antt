-- The block law of specs/BlockLaw.antt holds: blocks, one after the other.
use Rattle.std.proofs.Common.{◌≡◌, ℕ, ◌+◌, ◌≤◌, true, List, [], ◌∷◌, length, refl, arith, length-append}
use Rattle.arithmetic.proofs.TestLaws.{both}
use Rattle.arithmetic.proofs.PartLaws.{PartIs, whole_part, part_whole, parts_joined, part_left, part_right}
use Rattle.hex_text.specs.Blocks.{Block, block_length, is_block, block_text, blocks_length, are_blocks, blocks_at, blocks_text, blocks_of, BlocksFit}
use Rattle.hex_text.specs.BlockLaw.{BlockLaw}
use Rattle.hex_text.proofs.BlockLaws.{block_long, block_accepted, block_read, block_back, block_fits}

blocks_long : (ps : List (Block × List ℕ)) → length (blocks_text ps) ≡ blocks_length (blocks_of ps)
blocks_long [] = refl
blocks_long (p ∷ ps) = simp (length-append, block_long p.0 p.1, blocks_long ps)

-- the first block's text, and that of the others, where the text of all stands
module _ (p : Block × List ℕ) (ps : List (Block × List ℕ)) (s : List ℕ) (a : ℕ) (h : PartIs s a (blocks_length (blocks_of (p ∷ ps))) (blocks_text (p ∷ ps))) where
  first_stands : PartIs s a (block_length p.0) (block_text p.0 p.1)
  first_stands = part_left s a (block_length p.0) (blocks_length (blocks_of ps)) (block_text p.0 p.1) (blocks_text ps) h (block_long p.0 p.1)

  others_stand : PartIs s (a + block_length p.0) (blocks_length (blocks_of ps)) (blocks_text ps)
  others_stand = part_right s a (block_length p.0) (blocks_length (blocks_of ps)) (block_text p.0 p.1) (blocks_text ps) h (block_long p.0 p.1)

blocks_accepted : (ps : List (Block × List ℕ)) (s : List ℕ) (a : ℕ) → a + blocks_length (blocks_of ps) ≤ length s → PartIs s a (blocks_length (blocks_of ps)) (blocks_text ps) → are_blocks (blocks_of ps) s a ≡ true
blocks_accepted [] s a inside h = refl
blocks_accepted (p ∷ ps) s a inside h =
    rw (block_accepted p.0 s a p.1 (omega arith) (first_stands p ps s a h), blocks_accepted ps s (a + block_length p.0) (omega arith) (others_stand p ps s a h))

blocks_read : (ps : List (Block × List ℕ)) (s : List ℕ) (a : ℕ) → a + blocks_length (blocks_of ps) ≤ length s → BlocksFit ps → PartIs s a (blocks_length (blocks_of ps)) (blocks_text ps) → blocks_at (blocks_of ps) s a ≡ ps
blocks_read [] s a inside f h = refl
blocks_read (p ∷ ps) s a inside f h =
    rw (block_read p.0 s a p.1 (omega arith) (first_stands p ps s a h) f.0, blocks_read ps s (a + block_length p.0) (omega arith) f.1 (others_stand p ps s a h))

blocks_back : (bs : List Block) (s : List ℕ) (a : ℕ) → are_blocks bs s a ≡ true → PartIs s a (blocks_length bs) (blocks_text (blocks_at bs s a))
blocks_back [] s a accepted = record { is = refl; long = refl }
blocks_back (b ∷ bs) s a accepted =
    let tests = both (is_block b s a) (are_blocks bs s (a + block_length b)) accepted in
    parts_joined s a (block_length b) (blocks_length bs) _ _ (block_back b s a tests.0) (blocks_back bs s (a + block_length b) tests.1)

blocks_fit : (bs : List Block) (s : List ℕ) (a : ℕ) → BlocksFit (blocks_at bs s a)
blocks_fit [] s a = tt
blocks_fit (b ∷ bs) s a = (block_fits b s a, blocks_fit bs s (a + block_length b))

pub block_law : BlockLaw
block_law =
    record {
      text_long = blocks_long;
      text_accepted = λ ps. blocks_accepted ps (blocks_text ps) 0 (omega (arith, blocks_long ps)) (whole_part (blocks_text ps) _ (blocks_long ps));
      values_read = λ ps fit. blocks_read ps (blocks_text ps) 0 (omega (arith, blocks_long ps)) fit (whole_part (blocks_text ps) _ (blocks_long ps));
      text_back = λ bs s long accepted. part_whole s _ (blocks_length bs) long (blocks_back bs s 0 accepted);
      values_fit = λ bs s. blocks_fit bs s 0;
    }
