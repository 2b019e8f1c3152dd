-- What is promised of every reading, in the words of its contract. The proof is in proofs/PromisesHold.antt.
use Rattle.std.specs.Prelude.{◌≡◌, List, ℕ}
use Rattle.refusal.specs.Refusals.{AnswerPromise}
use Rattle.case_text.specs.Text.{MapBuffers, map_buffers_of, reading_tests, accepted_reading, refused_reading}
use Rattle.case_text.specs.declared.Reading.{Reading}

pub record ReadingPromise (text : List ℕ) (lent : MapBuffers) (reading : Reading) (after : MapBuffers) : Type 0 where
  -- each refusal exactly when its test is the first that holds; the refusal is 0 or a number of the reading's list, and "After a
  -- refusal every number is zero" (demand 1)
  pub answer : AnswerPromise (λ (r : Reading). r.refusal) (reading_tests text lent) (accepted_reading text) refused_reading reading
  -- "a refused reading changes neither buffer"; "A reading that succeeds fills both buffers"
  pub kept : (reading.refusal ≡ 0 → ⊥) → after ≡ lent
  pub filled : reading.refusal ≡ 0 → after ≡ map_buffers_of text
