-- The text law of specs/TextLaw: the block law at the blocks of a case text; and the law of one reading.
use mathlib.Core.Path.{◌≡◌, refl, ap, sym, ◌∙◌}
use mathlib.Core.Bool.{true}
use mathlib.Core.List.{List, [], map}
use Prim.Native.Nat.{ℕ}
use native.Mathlib.Omega.{arith}
use lib.ListN.{length, get_or}
use Rattle.arithmetic.specs.Lists.{joined}
use Rattle.hex_text.specs.Blocks.{Block, values_at, BlocksFit}
use Rattle.hex_text.proofs.BlockLawHolds.{block_law}
use Rattle.hex_text.proofs.UniformLaws.{uniform_fits, uniform_long, uniform_below, line_fits, line_fit}
use Rattle.case_text.specs.Layout.{line1, case_blocks, mark_width, count_width, map_rows, map_columns, text_len}
use Rattle.case_text.specs.Text.{MapBuffers, head_of_values, head_of, is_text, reading_refusal, ReadingContract}
use Rattle.case_text.specs.TextLaw.{CaseFields, head_values, blocks_with, text_of, fields_of, Fits, TextLaw, RightLengths, ReadingLaw}
use Rattle.case_text.specs.Promises.{ReadingPromise}
use Rattle.case_text.specs.declared.Reading.{Reading}
use Rattle.case_text.proofs.ReadingLaws.{refusal_none, accepted_none}
use Rattle.case_text.proofs.PromisesHold.{refusal_is, reading_promise}

-- fields that fit are values that fit their blocks, and the other way round

fits_blocks : (f : CaseFields) → Fits f → BlocksFit (blocks_with f)
fits_blocks f fits = (
  line_fits line1.widths (head_values f.head) refl (fits.dimension, (fits.mass, (fits.speed, (fits.cell_area, (fits.controlled, (fits.word, tt)))))),
  (
    uniform_fits map_rows 1 mark_width f.buffers.marks fits.marks_length fits.mark,
    (uniform_fits map_rows map_columns count_width f.buffers.counts fits.counts_length fits.count, tt),
  ),
)

blocks_fit : (f : CaseFields) → BlocksFit (blocks_with f) → Fits f
blocks_fit f fit =
    let head = line_fit line1.widths (head_values f.head) fit.0 in
    let marks = f.buffers.marks in
    let counts = f.buffers.counts in
    record {
      dimension = head.0;
      mass = head.1.0;
      speed = head.1.1.0;
      cell_area = head.1.1.1.0;
      controlled = head.1.1.1.1.0;
      word = head.1.1.1.1.1.0;
      marks_length = uniform_long map_rows 1 mark_width marks fit.1.0;
      mark = uniform_below map_rows 1 mark_width marks (omega arith) fit.1.0;
      counts_length = uniform_long map_rows map_columns count_width counts fit.1.1.0;
      count = uniform_below map_rows map_columns count_width counts (omega arith) fit.1.1.0;
    }

-- the fields of blocks with their values
abbrev fields_in : List (Block × List ℕ) → CaseFields
fields_in ps =
    let values = map (λ (p : Block × List ℕ). p.1) ps in
    record { head = head_of_values (get_or values 0 []); buffers = record { counts = get_or values 2 []; marks = get_or values 1 [] } }

text_accepted : (f : CaseFields) → is_text (text_of f) ≡ true
unfolding is_text text_of
text_accepted f = block_law.text_accepted (blocks_with f)

fields_read : (f : CaseFields) → Fits f → fields_of (text_of f) ≡ f
unfolding text_of
fields_read f fits = ap fields_in (block_law.values_read (blocks_with f) (fits_blocks f fits))

text_back : (t : List ℕ) → length t ≡ text_len → is_text t ≡ true → text_of (fields_of t) ≡ t
unfolding is_text text_of values_at joined
text_back t long accepted = block_law.text_back case_blocks t long accepted

fields_fit : (t : List ℕ) → Fits (fields_of t)
unfolding values_at joined
fields_fit t = blocks_fit (fields_of t) (block_law.values_fit case_blocks t)

text_long : (f : CaseFields) → length (text_of f) ≡ text_len
unfolding text_of
text_long f = block_law.text_long (blocks_with f)

pub text_law : TextLaw
text_law =
    record {
      text_long = text_long;
      text_accepted = text_accepted;
      fields_read = fields_read;
      text_back = text_back;
      fields_fit = fields_fit;
      one_text = λ t u lt at lu au e. sym (text_back t lt at) ∙ ap text_of e ∙ text_back u lu au;
    }

-- the law of one reading
module _ (text : List ℕ) (lent : MapBuffers) {reading : Reading} {after : MapBuffers} (c : ReadingContract text lent reading after) where
  promise : ReadingPromise text lent reading after
  promise = reading_promise text lent c

  refusal : reading.refusal ≡ reading_refusal text lent
  refusal = ap (λ (r : Reading). r.refusal) c.answers ∙ refusal_is text lent

  written_read : (f : CaseFields) → Fits f → text ≡ text_of f → RightLengths lent → (reading ≡ record { refusal = 0; head = f.head }) × (after ≡ f.buffers)
  written_read f fits is right =
      let none : reading.refusal ≡ 0 = refusal ∙ accepted_none text lent (record { text_long = ap length is ∙ text_long f; buffers = right; text = ap is_text is ∙ text_accepted f }) in
      let read : fields_of text ≡ f = ap fields_of is ∙ fields_read f fits in (
        promise.answer.if_accepted none ∙ ap (λ (x : CaseFields). record { refusal = 0; head = x.head }) read,
        promise.filled none ∙ ap (λ (x : CaseFields). x.buffers) read,
      )

  read_written : reading.refusal ≡ 0 → text_of (record { head = reading.head; buffers = after }) ≡ text
  read_written none =
      let a = refusal_none text lent (sym refusal ∙ none) in
      let head : reading.head ≡ head_of text = ap (λ (r : Reading). r.head) (promise.answer.if_accepted none) in
      rw (head, promise.filled none) (text_back text a.text_long a.text)

  pub reading_law : ReadingLaw text lent reading after
  reading_law = record { written_read = written_read; read_written = read_written }
