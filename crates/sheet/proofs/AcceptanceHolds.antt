-- When a sheet is accepted and when it is refused, both ways.
use mathlib.Core.Path.{◌≡◌, refl, ap, ◌∙◌}
use mathlib.Core.Logic.{◌↔◌}
use Prim.Native.Nat.{ℕ, ◌+◌, ◌≤◌, ◌<◌}
use native.Mathlib.Omega.{arith}
use borrow.Author.Tests.{ltb-true, ltb-false, lt-ltb, le-ltb}
use Rattle.refusal.proofs.RefusalLaws.{use_of}
use Rattle.refusal.proofs.RefusalsHold.{answer_promise}
use Rattle.columns.specs.Column.{column_count, limit_at, column_of}
use Rattle.columns.proofs.ColumnAtMostHolds.{column_at_most}
use Rattle.sheet.specs.Ranges.{InRange}
use Rattle.sheet.specs.Sheet.{lines_of, sheet_tests, sheet_with_size_column, sheet_of}
use Rattle.sheet.specs.declared.SheetAnswer.{SheetAnswer}
use Rattle.sheet.specs.Acceptance.{RefusedExactlyWhen, SheetPromise}
use Rattle.sheet.proofs.LineLaws.{lines_column}
use Rattle.sheet.proofs.RangeLaws.{within, tests_fail}

module _ (w m v : ℕ) where
  pub sheet_promise : SheetPromise w m v
  unfolding sheet_with_size_column
  sheet_promise = answer_promise _ _ _ refl (λ n. refl) (sheet_tests w m v) refl

  pub refused_exactly_when : RefusedExactlyWhen w m v
  refused_exactly_when =
      let exactly = sheet_promise.exactly_when in
      record {
        four = (
          λ e. use_of (sheet_tests w m v) 4 ((exactly 4).0 e) (λ d k s a. (within w m v d k s, ltb-true _ _ a)),
          λ h. let k = tests_fail w m v h.0 in (exactly 4).1 (k.0, (k.1, (k.2, lt-ltb _ _ h.1))),
        );
        none = (
          λ e. use_of (sheet_tests w m v) 0 ((exactly 0).0 e) (λ d k s a. (within w m v d k s, ltb-false _ _ a)),
          λ h. let k = tests_fail w m v h.0 in (exactly 0).1 (k.0, (k.1, (k.2, (le-ltb _ _ h.1, refl)))),
        );
      }

  -- an aircraft in range is accepted with a column of at most n + 1 just where its high area is within that column's limit
  pub accepted_within : (n : ℕ) → n < column_count → InRange w m v →
      ((sheet_of w m v).refusal ≡ 0) × ((sheet_of w m v).sheet.column ≤ n + 1) ↔ (lines_of w m v).area.high ≤ limit_at n
  accepted_within n l r =
      let at_most = column_at_most (lines_of w m v).area.high n l in
      let accepted = refused_exactly_when.none in (
        λ h. at_most.0 ((accepted.0 h.0).1, omega (arith, h.1, column_is h.0)),
        λ h. let k = at_most.1 h in let e = accepted.1 (r, k.0) in (e, omega (arith, k.1, column_is e)),
      )
    where
      column_is : (sheet_of w m v).refusal ≡ 0 → (sheet_of w m v).sheet.column ≡ column_of (lines_of w m v).area.high
      column_is e = ap (λ (a : SheetAnswer). a.sheet.column) (sheet_promise.if_accepted e) ∙ lines_column w m v
