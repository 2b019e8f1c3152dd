-- Laws of the reading: the test of a text from those of its blocks, what an accepted reading has, and each way out of the tests.
use mathlib.Core.Path.{◌≡◌, refl, sym, ◌∙◌}
use mathlib.Core.Bool.{Bool, true, ◌&&◌, and_assoc, and-true}
use mathlib.Core.List.{List}
use Prim.Native.Nat.{ℕ}
use borrow.Author.Tests.{eqb-true, not-false}
use lib.ListN.{length}
use Rattle.refusal.specs.Refusals.{FirstToHold}
use Rattle.refusal.proofs.RefusalLaws.{FollowsFrom, first_exactly_when, first_way_out, refused_by, accepted_by}
use Rattle.map.proofs.TestsPassed.{lengths}
use Rattle.hex_text.specs.Blocks.{is_block}
use Rattle.case_text.specs.Layout.{line1, mark_lines, count_lines, marks_start, counts_start, text_len}
use Rattle.case_text.specs.Text.{MapBuffers, head_of, map_buffers_of, is_text, reading_tests, reading_refusal, refused_reading, accepted_reading, reading_of, map_buffers_left, ReadingContract}
use Rattle.case_text.specs.TextLaw.{RightLengths}
use Rattle.case_text.specs.declared.CaseHead.{CaseHead}
use Rattle.case_text.specs.declared.Reading.{Reading}

-- the test of a text, from the tests of its blocks
pub text_is : (t : List ℕ) {head marks counts : Bool} → head ≡ is_block line1 t 0 → marks ≡ is_block mark_lines t marks_start → counts ≡ is_block count_lines t counts_start
    → head && marks && counts ≡ is_text t
unfolding is_text
text_is t p q r = rw (p, q, r) (simp (and_assoc, and-true))

module _ (t : List ℕ) (lent : MapBuffers) where
  -- each way out of the tests, by its number
  pub way_out : (n : ℕ) → FollowsFrom (reading_tests t lent) n (n ≡ reading_refusal t lent)
  unfolding reading_refusal
  way_out = first_way_out (reading_tests t lent) refl

  -- the lengths and the bytes of a reading that isn't refused
  pub record Accepted : Type 0 where
    pub text_long : length t ≡ text_len
    pub buffers : RightLengths lent
    pub text : is_text t ≡ true

  pub refusal_none : reading_refusal t lent ≡ 0 → Accepted
  unfolding reading_refusal
  refusal_none e =
      let tests : FirstToHold (reading_tests t lent) 0 = (first_exactly_when (reading_tests t lent) refl 0).0 e in
      let right = lengths lent.counts lent.marks tests.1.0 in
      record {
        text_long = eqb-true _ _ (not-false _ tests.0);
        buffers = record { counts_length = right.0; marks_length = right.1 };
        text = not-false _ tests.1.1.0;
      }

  pub accepted_none : Accepted → reading_refusal t lent ≡ 0
  unfolding reading_refusal
  accepted_none a = simp (a.text_long, a.buffers.counts_length, a.buffers.marks_length, a.text)

  -- what is answered and what is left where it is refused, each by itself, so that a function whose attribute names them needs no answer
  pub refused_answer : (reading_refusal t lent ≡ 0 → ⊥) → reading_of t lent ≡ refused_reading (reading_refusal t lent)
  unfolding reading_refusal reading_of
  refused_answer some = sym (refused_by (accepted_reading t) refused_reading (reading_tests t lent) refl refl some)

  pub refused_left : (reading_refusal t lent ≡ 0 → ⊥) → map_buffers_left t lent ≡ lent
  unfolding reading_refusal map_buffers_left
  refused_left some = sym (refused_by (map_buffers_of t) (λ _. lent) (reading_tests t lent) refl refl some)

  -- a refused reading with the first refusal's number, and the accepted one
  pub reading_refused : {n : ℕ} → n ≡ reading_refusal t lent → (n ≡ 0 → ⊥) → {answer : Reading} → answer ≡ refused_reading n → {after : MapBuffers} → after ≡ lent
      → ReadingContract t lent answer after
  reading_refused is some e f =
      record {
        answers = e ∙ rw is (sym (refused_answer (λ k. some (is ∙ k))));
        left = f ∙ sym (refused_left (λ k. some (is ∙ k)));
      }

  pub reading_accepted : 0 ≡ reading_refusal t lent → {h : CaseHead} → h ≡ head_of t → {after : MapBuffers} → after ≡ map_buffers_of t
      → ReadingContract t lent (record { refusal = 0; head = h }) after
  unfolding reading_refusal reading_of map_buffers_left
  reading_accepted is e f =
      record {
        answers = rw e (accepted_by (accepted_reading t) refused_reading (reading_tests t lent) refl is refl);
        left = f ∙ accepted_by (map_buffers_of t) (λ _. lent) (reading_tests t lent) refl is refl;
      }
