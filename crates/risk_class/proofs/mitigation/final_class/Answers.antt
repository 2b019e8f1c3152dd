use mathlib.Core.Path.{◌≡◌, refl, sym, ap, ap₂, ◌∙◌}
use mathlib.Core.Bool.{Bool, true, false, not, cond}
use Prim.Native.Nat.{ℕ, ◌+◌, ◌-◌, max}
use native.Mathlib.Omega.{arith}
use lib.IntN.{ℤ, pos, sub_ℕ}
use lib.Signed.{lt_z}
use mir.Facts.{to_z-of_z}
use mir.Syntax.{w8}
use mir.Val.{of_z, to_z}
use Rattle.std.proofs.Common.{Option, Some, None, Result, Ok, Err}
use Rattle.std.specs.Option.{ok_or}
use Rattle.refusal.proofs.NumberLaws.{passed_on}
use Rattle.refusal.specs.Numbers.{number_of}
use Rattle.refusal.specs.declared.Refusal.{Refusal}
use Rattle.refusal.specs.declared.Refusal.TheVariants.{MitigationDigit}
use Rattle.risk_class.specs.ClassTable.{class_at}
use Rattle.risk_class.specs.Mitigation.{credit_of, any_not_offered, is_entry, no_entry, final_class, refused_final, accepted_final}
use Rattle.risk_class.specs.PrivateOptions.{credits_of}
use Rattle.risk_class.specs.declared.credits.Credits.{Credits}
use Rattle.risk_class.specs.declared.class_table.Column.{Column}
use Rattle.risk_class.proofs.TableLaws.{class_le, floor_in, entry_row}
use Rattle.risk_class.proofs.ClassLaws.{column_in}
use Rattle.risk_class.proofs.MitigationLaws as law
use Rattle.risk_class.proofs.mitigation.final_class.Goals as goal

-- `risk_class::mitigation::final_class` meets its contract: a way out of the tests for each return.

-- ---- what is known once each test has failed

-- the column's test for the class is that of its number
module _ {column : ℕ} (c : Column) (class : ℕ) {found : Bool} (n : c.number ≡ column) (e : found ≡ is_entry c.number class) {t : Bool} (is : found ≡ t) where
  entry_is : is_entry column class ≡ t
  entry_is = sym (e ∙ ap (λ (k : ℕ). is_entry k class) n) ∙ is

  tested_9 : no_entry column class ≡ not t
  tested_9 = law.entry_test column class (column_in c n) entry_is

module _ (word : ℕ) where
  abbrev claimed : Credits
  claimed = record { m1 = credit_of word 0 + credit_of word 1 + credit_of word 2; m2 = credit_of word 3 }

  refused_11 : {r : Refusal} {o : Option Credits} → Err r ≡ ok_or o MitigationDigit → o ≡ credits_of word → (any_not_offered word ≡ true) × (r ≡ MitigationDigit)
  refused_11 {r} e k = by_test (any_not_offered word) refl (e ∙ ap (λ (o : Option Credits). ok_or o MitigationDigit) k)
    where
      why : Result Credits Refusal → Refusal
      why (Ok _) = r
      why (Err x) = x

      by_test : (t : Bool) → any_not_offered word ≡ t → Err r ≡ ok_or (cond t None (Some claimed)) MitigationDigit → (any_not_offered word ≡ true) × (r ≡ MitigationDigit)
      by_test true h p = (h, ap why p)
      by_test false h p = cc

  offered : {credits : Credits} {o : Option Credits} → Ok credits ≡ ok_or o MitigationDigit → o ≡ credits_of word → (any_not_offered word ≡ false) × (credits ≡ claimed)
  offered {credits} e k = by_test (any_not_offered word) refl (e ∙ ap (λ (o : Option Credits). ok_or o MitigationDigit) k)
    where
      value : Result Credits Refusal → Credits
      value (Ok x) = x
      value (Err _) = credits

      by_test : (t : Bool) → any_not_offered word ≡ t → Ok credits ≡ ok_or (cond t None (Some claimed)) MitigationDigit → (any_not_offered word ≡ false) × (credits ≡ claimed)
      by_test true h p = cc
      by_test false h p = (h, ap value p)

last_is : {column : ℕ} (c : Column) (class word : ℕ) {floor after : ℕ} {credits : Credits} {last : ℤ} → c.number ≡ column → floor ≡ class_at 1 c.number → credits ≡ claimed word
    → after ≡ max floor (class - credits.m1) → last ≡ sub_ℕ after credits.m2 → last ≡ final_class column class word
last_is c class word n ef ec ea el =
    let floor = ef ∙ ap (class_at 1) n in
    el ∙ ap₂ sub_ℕ (ea ∙ ap₂ (λ (f m1 : ℕ). max f (class - m1)) floor (ap (λ (k : Credits). k.m1) ec)) (ap (λ (k : Credits). k.m2) ec)

-- the result is an i8 already
above_is : {z last : ℤ} {t : Bool} → to_z w8 (of_z w8 z) ≡ z → z ≡ last → lt_z (pos 7) (to_z w8 (of_z w8 z)) ≡ t → lt_z (pos 7) last ≡ t
above_is same e h = sym (ap (lt_z (pos 7)) (same ∙ e)) ∙ h

-- ---- the goals

pub returns-in_err-column : goal.returns-in_err-column
returns-in_err-column c =
    let wrong = c.in_err-column.ensures in
    passed_on accepted_final refused_final _ _ c.from_residual.ensures.1
    ∙ ap (λ (r : Refusal). refused_final (number_of r)) wrong.0
    ∙ law.way_out _ _ _ 9 (law.wrong_column_lem c.args.column c.args.class wrong.1)

pub returns-then-not-has_entry : goal.returns-then-not-has_entry
returns-then-not-has_entry c =
    law.way_out _ _ _ 9 (tested_9 c.in_ok-column.column c.args.class c.in_ok-column.ensures c.has_entry.ensures c.if-not-has_entry.true)

pub returns-in_err-credits : goal.returns-in_err-credits
returns-in_err-credits c =
    let passed_9 = tested_9 c.in_ok-column.column c.args.class c.in_ok-column.ensures c.has_entry.ensures c.if-not-has_entry.false in
    let refused = refused_11 c.args.word c.in_err-credits.ensures.value c.of_word.ensures in
    passed_on accepted_final refused_final _ _ c.from_residual-in_err-credits.ensures.1
    ∙ ap (λ (r : Refusal). refused_final (number_of r)) refused.1
    ∙ law.way_out _ _ _ 11 passed_9 refused.0

pub after_m2-last-requires : goal.after_m2-last-requires
after_m2-last-requires c =
    let column = c.in_ok-column.column in
    let n = c.in_ok-column.ensures in
    let in_range = column.in_table in
    let e = entry_row c.args.column c.args.class (entry_is column c.args.class n c.has_entry.ensures c.if-not-has_entry.false) in
    let is = offered c.args.word c.in_ok-credits.ensures.value c.of_word.ensures in
    omega (arith, c.after_m1.ensures, c.floor.ensures, floor_in column.number in_range.0 in_range.1, e.3, class_le e.0 c.args.column e.1 e.2 (omega arith) (omega arith), ap (λ (k : Credits). k.m2) is.1, law.credits c.args.word is.0)

pub returns-then-last-gt-HIGHEST_FINAL : goal.returns-then-last-gt-HIGHEST_FINAL
returns-then-last-gt-HIGHEST_FINAL c =
    let column = c.in_ok-column.column in
    let n = c.in_ok-column.ensures in
    let passed_9 = tested_9 column c.args.class n c.has_entry.ensures c.if-not-has_entry.false in
    let is = offered c.args.word c.in_ok-credits.ensures.value c.of_word.ensures in
    let last = last_is column c.args.class c.args.word n c.floor.ensures is.1 c.after_m1.ensures c.after_m2-last.ensures in
    law.way_out _ _ _ 12 passed_9 is.0
    (above_is (to_z-of_z {w = w8} {z = c.after_m2-last.result} (record { sfits = c.after_m2-last.type_inv })) last c.if-last-gt-HIGHEST_FINAL.true)

pub returns : goal.returns
returns c =
    let column = c.in_ok-column.column in
    let n = c.in_ok-column.ensures in
    let passed_9 = tested_9 column c.args.class n c.has_entry.ensures c.if-not-has_entry.false in
    let is = offered c.args.word c.in_ok-credits.ensures.value c.of_word.ensures in
    let last = last_is column c.args.class c.args.word n c.floor.ensures is.1 c.after_m1.ensures c.after_m2-last.ensures in
    let same = to_z-of_z {w = w8} {z = c.after_m2-last.result} (record { sfits = c.after_m2-last.type_inv }) in
    ap accepted_final (same ∙ last) ∙ law.way_out _ _ _ 0 passed_9 is.0 (above_is same last c.if-last-gt-HIGHEST_FINAL.false)
