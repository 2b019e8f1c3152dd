use Rattle.std.proofs.Common.{◌≡◌, ℕ, List, Result, not, length, refl, sym, ◌∙◌, ap, eq-eqb, ne_eqb, rules}
use Rattle.std.specs.Result.{IsErrAnd}
use Rattle.refusal.specs.Numbers.{number_of}
use Rattle.refusal.specs.declared.Refusal.{Refusal}
use Rattle.refusal.specs.declared.Refusal.TheVariants.{TextLength, BufferLength, TextByte}
use Rattle.refusal.proofs.NumberLaws.{passed_on, number_nonzero}
use Rattle.case_text.specs.Layout.{text_len, map_cells, map_rows}
use Rattle.case_text.specs.Text.{marks_of, counts_of, map_buffers_of, accepted_head, refused_reading, reading_answer}
use Rattle.case_text.specs.declared.CaseHead.{CaseHead}
use Rattle.case_text.proofs.ReadingLaws.{way_out, reading_refused, reading_accepted}
use Rattle.case_text.proofs.read_case.Goals as goal

-- a refusal that is passed on
passed : (r : Result CaseHead Refusal) {e : Refusal} → IsErrAnd r (λ x. x ≡ e) → (known : Refusal) → e ≡ known → reading_answer r ≡ refused_reading (number_of known)
passed r h known is = passed_on accepted_head refused_reading r _ h ∙ ap (λ x. refused_reading (number_of x)) is

-- the buffers are filled when each of them is
filled : (t : List ℕ) {counts marks : List ℕ} → counts ≡ counts_of t → marks ≡ marks_of t → record { counts = counts; marks = marks } ≡ map_buffers_of t
filled t p q = rw (p, q)

pub returns-in_err-text : goal.returns-in_err-text
returns-in_err-text c =
    let wrong : length c.args.text.now ≡ text_len → ⊥ = search rules in
    reading_refused _ _ (way_out _ _ 13 (simp (ne_eqb _ _ wrong))) (number_nonzero TextLength) (passed _ c.from_residual.ensures.1 TextLength (search rules)) refl

pub returns-in_err-counts : goal.returns-in_err-counts
returns-in_err-counts c =
    let long : length c.args.text.now ≡ text_len = search rules in
    let wrong : length c.args.counts.now ≡ map_cells → ⊥ = search rules in
    reading_refused _ _ (way_out _ _ 5 (simp (eq-eqb _ _ long)) (simp (ne_eqb _ _ wrong))) (number_nonzero BufferLength) (passed _ c.from_residual-in_err-counts.ensures.1 BufferLength (search rules)) refl

pub returns-in_err-marks : goal.returns-in_err-marks
returns-in_err-marks c =
    let long : length c.args.text.now ≡ text_len = search rules in
    let many : length c.args.counts.now ≡ map_cells = search rules in
    let wrong : length c.args.marks.now ≡ map_rows → ⊥ = search rules in
    let counts : c.in_ok-counts.counts.now ≡ c.args.counts.now = search rules in
    reading_refused _ _ (way_out _ _ 5 (simp (eq-eqb _ _ long)) (simp (eq-eqb _ _ many, ne_eqb _ _ wrong))) (number_nonzero BufferLength) (passed _ c.from_residual-in_err-marks.ensures.1 BufferLength (search rules)) (rw counts)

pub returns-then-not-is_text : goal.returns-then-not-is_text
returns-then-not-is_text c =
    let long : length c.args.text.now ≡ text_len = search rules in
    let many : length c.args.counts.now ≡ map_cells = search rules in
    let rows : length c.args.marks.now ≡ map_rows = search rules in
    let text : c.in_ok-text.text.now ≡ c.args.text.now = search rules in
    let counts : c.in_ok-counts.counts.now ≡ c.args.counts.now = search rules in
    let marks : c.in_ok-marks.marks.now ≡ c.args.marks.now = search rules in
    let test = rw text at (sym c.is_text.ensures) in
    reading_refused _ _ (way_out _ _ 14 (simp (eq-eqb _ _ long)) (simp (eq-eqb _ _ many, eq-eqb _ _ rows)) (ap not (test ∙ c.if-not-is_text.true))) (number_nonzero TextByte) refl (rw (counts, marks))

pub returns : goal.returns
returns c =
    let long : length c.args.text.now ≡ text_len = search rules in
    let many : length c.args.counts.now ≡ map_cells = search rules in
    let rows : length c.args.marks.now ≡ map_rows = search rules in
    let text : c.in_ok-text.text.now ≡ c.args.text.now = search rules in
    let test = rw text at (sym c.is_text.ensures) in
    let counts = rw text at c.fill_counts.ensures in
    let marks = rw text at c.fill_marks.ensures in
    reading_accepted _ _ (way_out _ _ 0 (simp (eq-eqb _ _ long)) (simp (eq-eqb _ _ many, eq-eqb _ _ rows)) (ap not (test ∙ c.if-not-is_text.false))) (rw text at c.head_of.ensures) (filled _ counts marks)
