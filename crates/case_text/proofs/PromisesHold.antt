-- The promise of specs/Promises.antt holds.
use mathlib.Core.Path.{◌≡◌, refl, sym, ap, ◌∙◌}
use mathlib.Core.List.{List}
use Prim.Native.Nat.{ℕ}
use Rattle.refusal.specs.Refusals.{AnswerPromise}
use Rattle.refusal.proofs.RefusalLaws.{first_exactly_when, refused_by, accepted_by}
use Rattle.refusal.proofs.RefusalsHold.{answer_promise}
use Rattle.case_text.specs.Text.{MapBuffers, map_buffers_of, reading_tests, reading_refusal, accepted_reading, refused_reading, reading_of, map_buffers_left, ReadingContract}
use Rattle.case_text.specs.Promises.{ReadingPromise}
use Rattle.case_text.specs.declared.Reading.{Reading}

module _ (text : List ℕ) (lent : MapBuffers) where
  answer : AnswerPromise (λ (r : Reading). r.refusal) (reading_tests text lent) (accepted_reading text) refused_reading (reading_of text lent)
  unfolding reading_of
  answer = answer_promise _ _ _ refl (λ n. refl) (reading_tests text lent) refl

  pub refusal_is : (reading_of text lent).refusal ≡ reading_refusal text lent
  unfolding reading_refusal
  refusal_is = (answer.exactly_when _).1 ((first_exactly_when (reading_tests text lent) refl _).0 refl)

  pub reading_promise : {reading : Reading} {after : MapBuffers} → ReadingContract text lent reading after → ReadingPromise text lent reading after
  unfolding reading_refusal map_buffers_left
  reading_promise {reading} c =
      let number : reading.refusal ≡ reading_refusal text lent = ap (λ (r : Reading). r.refusal) c.answers ∙ refusal_is in
      record {
        answer = rw c.answers answer;
        kept = λ some. c.left ∙ sym (refused_by (map_buffers_of text) (λ _. lent) (reading_tests text lent) refl number some);
        filled = λ none. c.left ∙ sym (accepted_by (map_buffers_of text) (λ _. lent) (reading_tests text lent) refl number none);
      }
