-- A working at a lower column gives each class that the other gives, the same or lower.
use mathlib.Core.Path.{◌≡◌, refl}
use mathlib.Core.Bool.{Bool, true, false, cond}
use Prim.Native.Nat.{ℕ, ◌≤◌}
use native.Mathlib.Omega.{arith}
use borrow.Author.Tests.{eqb-true, eq-eqb}
use lib.Dec.{eqb}
use lib.IntN.{ℤ}
use lib.Signed.{◌≤ℤ◌}
use Rattle.footprint.specs.declared.Footprint.{Footprint}
use Rattle.risk_class.specs.ClassTable.{intrinsic_class_of}
use Rattle.risk_class.specs.Mitigation.{final_class_of}
use Rattle.risk_class.specs.Lower.{LowerInTable}
use Rattle.risk_class.proofs.PromisesHold.{read}
use Rattle.risk_class.proofs.LowerHolds.{intrinsic_lower, working_lower}
use Rattle.assessment.specs.Working.{given, not_given, Working, ended_before, ended_after, whole_working, after_class, after_footprint, working_on}
use Rattle.assessment.specs.Demand3.{SameOrLower}

not_given_lem : {A : Type 0} {a : A} → not_given ≡ given a → ⊥
not_given_lem e = let h : ◌≡◌ {A = ℕ} 0 1 = cc in omega arith

-- the same value is given
given_is : {A : Type 0} {a b : A} → given a ≡ given b → a ≡ b
given_is e = cc

-- a working that gives no class asks nothing of the other
none_given : (refusal : ℕ) (exact : Working) → SameOrLower (ended_before refusal) exact
none_given refusal exact = record { intrinsic = λ class e. absurd (not_given_lem e); final = λ class e. absurd (not_given_lem e) }

module _ (column class column' class' word : ℕ) (class_le : class' ≤ class)
    (lower : (final_class_of column class word).refusal ≡ 0 → ((final_class_of column' class' word).refusal ≡ 0) × ((final_class_of column' class' word).class ≤ℤ (final_class_of column class word).class)) where
  intrinsic_given : (t : Bool) (z : ℤ) (n x : ℕ) → given class ≡ given x →
      (k : ℕ) × ((cond t (whole_working class' z) (ended_after class' n)).intrinsic ≡ given k) × (k ≤ x)
  intrinsic_given true z n x e = (class', refl, omega (arith, given_is e))
  intrinsic_given false z n x e = (class', refl, omega (arith, given_is e))

  after_class_lem : SameOrLower (after_class column class word) (after_class column' class' word)
  unfolding after_class
  after_class_lem = by_test (eqb (final_class_of column class word).refusal 0) refl
    where
      exact : Working
      exact =
          cond (eqb (final_class_of column' class' word).refusal 0) (whole_working class' (final_class_of column' class' word).class)
          (ended_after class' (final_class_of column' class' word).refusal)

      final_given : (final_class_of column class word).refusal ≡ 0 → (z : ℤ) → given (final_class_of column class word).class ≡ given z →
          (k : ℤ) × (exact.final ≡ given k) × (k ≤ℤ z)
      final_given h z e =
          let l = lower h
          in ((final_class_of column' class' word).class, simp (eq-eqb _ _ l.0), rw (given_is e) at l.1)

      by_test : (t : Bool) → eqb (final_class_of column class word).refusal 0 ≡ t →
          SameOrLower (cond t (whole_working class (final_class_of column class word).class) (ended_after class (final_class_of column class word).refusal)) exact
      by_test true e =
          record {
            intrinsic = λ x q. intrinsic_given (eqb (final_class_of column' class' word).refusal 0) _ _ x q;
            final = λ z q. final_given (eqb-true _ _ e) z q;
          }
      by_test false e =
          record {
            intrinsic = λ x q. intrinsic_given (eqb (final_class_of column' class' word).refusal 0) _ _ x q;
            final = λ z q. absurd (not_given_lem q);
          }

module _ (column column' : ℕ) (least : 1 ≤ column') (most : column' ≤ column) (controlled word : ℕ) where
  after_footprint_lem : (row : ℕ) → SameOrLower (after_footprint column row controlled word) (after_footprint column' row controlled word)
  unfolding after_footprint
  after_footprint_lem row = by_test (eqb (intrinsic_class_of column row controlled).refusal 0) refl
    where
      exact : Working
      exact =
          cond (eqb (intrinsic_class_of column' row controlled).refusal 0) (after_class column' (intrinsic_class_of column' row controlled).class word)
          (ended_before (intrinsic_class_of column' row controlled).refusal)

      given_there : (intrinsic_class_of column row controlled).refusal ≡ 0 → SameOrLower (after_class column (intrinsic_class_of column row controlled).class word) exact
      given_there h =
          let r = read column row controlled h
          in let l : LowerInTable column row controlled column' row controlled =
          record { column_ge = least; column_le = most; row_ge = r.row_ge; row_le = omega arith; controlled_ge = omega arith; controlled_le = r.controlled_le }
          in let i = intrinsic_lower column row controlled column' row controlled l h
          in simp (eq-eqb _ _ i.0)
          (after_class_lem column (intrinsic_class_of column row controlled).class column' (intrinsic_class_of column' row controlled).class word i.1
          (λ k. working_lower column row controlled column' row controlled word l h k))

      by_test : (t : Bool) → eqb (intrinsic_class_of column row controlled).refusal 0 ≡ t →
          SameOrLower (cond t (after_class column (intrinsic_class_of column row controlled).class word) (ended_before (intrinsic_class_of column row controlled).refusal)) exact
      by_test true e = given_there (eqb-true _ _ e)
      by_test false e = none_given _ exact

  pub lower_column : (footprint : Footprint) → SameOrLower (working_on column footprint controlled word) (working_on column' footprint controlled word)
  unfolding working_on
  lower_column footprint = by_test (eqb footprint.refusal 0)
    where
      by_test : (t : Bool) → SameOrLower (cond t (after_footprint column footprint.row controlled word) (ended_before footprint.refusal))
          (cond t (after_footprint column' footprint.row controlled word) (ended_before footprint.refusal))
      by_test true = after_footprint_lem footprint.row
      by_test false = none_given _ _
