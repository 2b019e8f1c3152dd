-- The laws of specs/Lower.antt hold.
use mathlib.Core.Path.{◌≡◌, refl, ◌∙◌}
use mathlib.Core.Logic.{⊎_elim}
use mathlib.Core.Bool.{Bool, true, false, cond}
use Prim.Native.Nat.{ℕ, suc, ◌+◌, ◌-◌, ◌≤◌, ◌<◌}
use native.Mathlib.Omega.{arith}
use native.Mathlib.Nat.{le_refl, le_trans}
use borrow.Author.Tests.{lt-ltb, le-ltb, le-leb, ne_eqb, eqb-true, eqb-false}
use lib.Dec.{eqb}
use lib.IntN.{pos, sub_ℕ}
use lib.Signed.{lt_z, le_z, ◌≤ℤ◌}
use Rattle.arithmetic.proofs.TestLaws.{lt_or_le, not_outside}
use Rattle.risk_class.specs.ClassTable.{no_class, class_at, used_row, outside_table, intrinsic_class_of}
use Rattle.risk_class.specs.Mitigation.{credit_of, after_m1, final_class, final_class_of}
use Rattle.risk_class.specs.Lower.{LowerInTable, LowerEntry, IntrinsicLower, FinalLower, WorkingLower}
use Rattle.risk_class.proofs.TableLaws.{floor_in, table_lower}
use Rattle.risk_class.proofs.ClassLaws.{used_in}
use Rattle.risk_class.proofs.MitigationLaws.{entry_test}
use Rattle.risk_class.proofs.PromisesHold as one

sub_mono : (a b d : ℕ) → a ≤ b → le_z (sub_ℕ a d) (sub_ℕ b d) ≡ true
sub_mono a b d l =
    ⊎_elim
    (λ (h : b < d). simp (lt-ltb b d h, lt-ltb a d (omega arith), le-leb (d - suc b) (d - suc a) (omega arith)))
    (λ (h : d ≤ b). ⊎_elim
    (λ (g : a < d). simp (le-ltb b d h, lt-ltb a d g))
    (λ (g : d ≤ a). simp (le-ltb b d h, le-ltb a d g, le-leb (a - d) (b - d) (omega arith)))
    (lt_or_le a d))
    (lt_or_le b d)

-- controlled ground puts a lower row in place, and a lower row stays lower
used_lower : (row controlled row' controlled' : ℕ) → 1 ≤ row → row' ≤ row → controlled ≤ controlled' → controlled' ≤ 1
    → used_row row' controlled' ≤ used_row row controlled
used_lower row controlled row' controlled' r1 l m m1 = by_tests (eqb controlled 1) (eqb controlled' 1) refl refl
  where
    by_tests : (t t' : Bool) → eqb controlled 1 ≡ t → eqb controlled' 1 ≡ t' → cond t' 1 row' ≤ cond t 1 row
    by_tests true true e e' = le_refl 1
    by_tests true false e e' =
        let wrong : ⊥ = omega (arith, eqb-true controlled 1 e, eqb-false controlled' 1 e') in absurd wrong
    by_tests false true e e' = r1
    by_tests false false e e' = l

module _ (column row controlled column' row' controlled' : ℕ) (low : LowerInTable column row controlled column' row' controlled')
    (ok : (intrinsic_class_of column row controlled).refusal ≡ 0) where
  entry_lower : (1 ≤ class_at (used_row row' controlled') column') × (class_at (used_row row' controlled') column' ≤ class_at (used_row row controlled) column)
  entry_lower =
      let r = one.read column row controlled ok in
      let u = one.used column row controlled ok in
      let u' = used_in row' controlled' low.row_ge (omega arith) in
      table_lower (used_row row controlled) column (used_row row' controlled') column' u.1 r.column_le u'.0
      (used_lower row controlled row' controlled' (omega arith) low.row_le low.controlled_ge low.controlled_le) low.column_ge low.column_le
      (one.some_class column row controlled ok)

  accepted_lower : (intrinsic_class_of column' row' controlled').refusal ≡ 0
  accepted_lower =
      let r = one.read column row controlled ok in
      let right : outside_table column' row' controlled' ≡ false =
      simp (not_outside 1 5 column' low.column_ge (omega arith), not_outside 2 7 row' low.row_ge (omega arith), le-ltb 1 controlled' low.controlled_le) in
      one.intrinsic_accepted column' row' controlled' right (ne_eqb (class_at (used_row row' controlled') column') no_class (λ z. omega (arith, entry_lower, z)))

  class_lower : (intrinsic_class_of column' row' controlled').class ≤ (intrinsic_class_of column row controlled).class
  class_lower = rw (one.class_is column row controlled ok, one.class_is column' row' controlled' accepted_lower) entry_lower.1

pub intrinsic_lower : IntrinsicLower
intrinsic_lower column row controlled column' row' controlled' low ok =
    (accepted_lower column row controlled column' row' controlled' low ok, class_lower column row controlled column' row' controlled' low ok)

-- ---- the final class

module _ (column class column' class' word : ℕ) (low : LowerEntry column class column' class')
    (ok : (final_class_of column class word).refusal ≡ 0) where
  m1_lower : after_m1 column' class' word ≤ after_m1 column class word
  m1_lower =
      let k = one.known column class word ok in
      let floor = table_lower 1 column 1 column' (omega arith) k.column_le (omega arith) (omega arith) low.column_ge low.column_le
      (λ z. omega (arith, floor_in column k.column_ge k.column_le, z)) in
      omega (arith, floor)

  final_accepted : (final_class_of column' class' word).refusal ≡ 0
  final_accepted =
      let k = one.known column class word ok in
      let f = after_m1 column' class' word in
      let d = credit_of word 3 in
      let small : lt_z (pos 7) (final_class column' class' word) ≡ false = one.above_is f d ∙ le-ltb (7 + d) f (le_trans m1_lower k.small) in
      one.final_accepted column' class' word
      (entry_test column' class' (not_outside 1 5 column' low.column_ge (omega arith)) low.entry) k.offered small

  final_le : (final_class_of column' class' word).class ≤ℤ (final_class_of column class word).class
  final_le =
      rw (one.final_is column class word ok, one.final_is column' class' word final_accepted)
      (one.by_le_z (sub_mono (after_m1 column' class' word) (after_m1 column class word) (credit_of word 3) m1_lower))

pub final_lower : FinalLower
final_lower column class column' class' word low ok =
    (final_accepted column class column' class' word low ok, final_le column class column' class' word low ok)

pub working_lower : WorkingLower
working_lower column row controlled column' row' controlled' word low ok given =
    let i = intrinsic_lower column row controlled column' row' controlled' low ok in
    final_lower column (intrinsic_class_of column row controlled).class column' (intrinsic_class_of column' row' controlled').class word
    (record {
      column_ge = low.column_ge;
      column_le = low.column_le;
      entry = (one.intrinsic_promise column' row' controlled').entry i.0;
      class_le = i.1;
    })
    given
