-- The size column as the code finds it, from the last pair to the first.
use mathlib.Core.Path.{◌≡◌, refl, sym, ◌∙◌}
use mathlib.Core.Bool.{true, false}
use mathlib.Core.List.{List, [], ◌∷◌, ◌++◌}
use Prim.Native.Nat.{ℕ, suc, ◌+◌}
use native.Mathlib.Omega.{arith}
use lib.ListN.{length}
use borrow.Author.Tests.{ne_eqb}
use Rattle.std.proofs.Common.{None, Some, append_assoc, length-append}
use Rattle.columns.specs.Column.{first_from}
use Rattle.columns.specs.SizeColumn.{size_pairs, large_enough, size_column_of, size_column_found}
use Rattle.columns.specs.declared.SizePair.{SizePair}

module _ (w v : ℕ) where
  -- the size column by the pairs after those that are left
  pub record Walked (left : List SizePair) (column : ℕ) : Type 0 where
    pub pairs : List SizePair
    pub others : left ++ pairs ≡ size_pairs
    pub by_others : column ≡ first_from (large_enough w v) (length left + 1) pairs

  pub none_walked : Walked size_pairs 0
  none_walked = record { pairs = []; others = refl; by_others = refl }

  module _ (rest : List SizePair) (pair : SizePair) {left : List SizePair} (e : left ≡ rest ++ (pair ∷ [])) {column : ℕ} (h : Walked left column) where
    others : rest ++ (pair ∷ h.pairs) ≡ size_pairs
    others = sym (append_assoc rest (pair ∷ []) h.pairs) ∙ rw (sym e) h.others

    next : length left + 1 ≡ suc (length rest + 1)
    next = rw (e, length-append) (omega arith)

    pub pair_large_enough : {k : ℕ} → k ≡ length rest → large_enough w v pair ≡ true → Walked rest (k + 1)
    pair_large_enough k t = record { pairs = pair ∷ h.pairs; others = others; by_others = simp (k, t) refl }

    pub pair_too_small : large_enough w v pair ≡ false → Walked rest column
    pair_too_small f = record { pairs = pair ∷ h.pairs; others = others; by_others = h.by_others ∙ simp (f, next) refl }

  pub all_walked : (left : List SizePair) → length left ≡ 0 → {column : ℕ} → Walked left column → column ≡ size_column_of w v
  unfolding size_column_of
  all_walked [] e h = rw h.others at h.by_others
  all_walked (pair ∷ rest) e h = absurd (omega arith)

pub none_found : {column n : ℕ} → column ≡ 0 → column ≡ n → None ≡ size_column_found n
none_found z e = simp (sym e, z) refl

pub one_found : {column n : ℕ} → (column ≡ 0 → ⊥) → column ≡ n → Some column ≡ size_column_found n
one_found z e = simp (sym e, ne_eqb _ _ z) refl
