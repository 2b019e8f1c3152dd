-- The mitigation word's answer: what its tests say, its ways out, and the credits of a word that is offered.
use mathlib.Core.Path.{◌≡◌, refl}
use mathlib.Core.Bool.{Bool, true, false, cond, not, ◌||◌}
use Prim.Native.Nat.{ℕ, ◌≤◌}
use native.Mathlib.Omega.{arith}
use borrow.Author.Tests.{eqb-false}
use lib.Dec.{eqb}
use Rattle.refusal.proofs.RefusalLaws as tests
use Rattle.refusal.proofs.RefusalLaws.{FollowsFrom}
use Rattle.arithmetic.proofs.TestLaws.{neither}
use Rattle.risk_class.specs.ClassTable.{wrong_column}
use Rattle.risk_class.specs.Mitigation.{not_offered, credit_of, any_not_offered, is_entry, no_entry, final_class, mitigation_tests, refused_final, accepted_final, final_class_of}
use Rattle.risk_class.proofs.TableLaws.{credit_le}

-- the test of refusal 9, in two steps as the code makes it
module _ (column class : ℕ) where
  pub wrong_column_lem : wrong_column column ≡ true → no_entry column class ≡ true
  wrong_column_lem h = simp h

  pub entry_test : wrong_column column ≡ false → {t : Bool} → is_entry column class ≡ t → no_entry column class ≡ not t
  entry_test c_in h = simp (c_in, h)

-- each way out of the tests, by its number: the refused class, and at 0 the class after the credits
pub way_out : (column class word n : ℕ) → FollowsFrom (mitigation_tests column class word) n
    (cond (eqb n 0) (accepted_final (final_class column class word)) (refused_final n) ≡ final_class_of column class word)
unfolding final_class_of
way_out column class word = tests.way_out _ _ (mitigation_tests column class word) refl

-- in a word of which every digit is offered each credit is at most 2
pub record Credits (word : ℕ) : Type 0 where
  pub m1a : credit_of word 0 ≤ 2
  pub m1b : credit_of word 1 ≤ 2
  pub m1c : credit_of word 2 ≤ 2
  pub m2 : credit_of word 3 ≤ 2

pub credits : (word : ℕ) → any_not_offered word ≡ false → Credits word
credits word h =
    let x : ℕ → Bool = λ i. eqb (credit_of word i) not_offered in
    let h3 = neither (x 0 || x 1 || x 2) (x 3) h in
    let h2 = neither (x 0 || x 1) (x 2) h3.0 in
    let h1 = neither (x 0) (x 1) h2.0 in
    record {
      m1a = credit_le 0 _ (omega arith) (eqb-false _ _ h1.0);
      m1b = credit_le 1 _ (omega arith) (eqb-false _ _ h1.1);
      m1c = credit_le 2 _ (omega arith) (eqb-false _ _ h2.1);
      m2 = credit_le 3 _ (omega arith) (eqb-false _ _ h3.1);
    }
