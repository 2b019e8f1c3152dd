-- Rules of the class table and of the credits: each is one test computed over the whole table, and the rule at each entry.
use mathlib.Core.Path.{◌≡◌, refl, sym, ap, ap₂, ◌∙◌}
use mathlib.Core.Bool.{Bool, true, false, ◌||◌, ◌&&◌}
use Prim.Native.Nat.{ℕ, suc, ◌+◌, ◌-◌, ◌≤◌}
use native.Mathlib.Omega.{arith}
use borrow.Author.Tests.{le-ltb, ne_eqb, ltb-true, leb-true, eqb-true}
use lib.Dec.{ltb, leb, eqb}
use Rattle.arithmetic.specs.Conditions.{any_below}
use Rattle.arithmetic.proofs.TestLaws.{both, all_below, all_below_lem, any_some}
use Rattle.risk_class.specs.ClassTable.{class_at, no_class}
use Rattle.risk_class.specs.Mitigation.{not_offered, credit_at, is_entry}

-- ---- the class table

-- a test of every entry
abbrev every_entry : (ℕ → ℕ → Bool) → Bool
every_entry p = all_below (λ i. all_below (λ j. p (suc i) (suc j)) 5) 7

at_entry : (p : ℕ → ℕ → Bool) → every_entry p ≡ true → (row column : ℕ) → 1 ≤ row → row ≤ 7 → 1 ≤ column → column ≤ 5
    → p row column ≡ true
at_entry p t row column r1 r7 c1 c5 =
    let er : suc (row - 1) ≡ row = omega arith in
    let ec : suc (column - 1) ≡ column = omega arith in
    let here = all_below_lem (λ i. all_below (λ j. p (suc i) (suc j)) 5) 7 t (row - 1) (omega arith) in
    ap₂ p (sym er) (sym ec) ∙ all_below_lem (λ j. p (suc (row - 1)) (suc j)) 5 here (column - 1) (omega arith)

pub class_le : (row column : ℕ) → 1 ≤ row → row ≤ 7 → 1 ≤ column → column ≤ 5 → class_at row column ≤ 10
unfolding class_at
class_le row column r1 r7 c1 c5 =
    leb-true (class_at row column) 10 (at_entry (λ r c. leb (class_at r c) 10) refl row column r1 r7 c1 c5)

pub floor_in : (column : ℕ) → 1 ≤ column → column ≤ 5 → (1 ≤ class_at 1 column) × (class_at 1 column ≤ 3)
unfolding class_at
floor_in column c1 c5 =
    let t = both (ltb 0 (class_at 1 column)) (leb (class_at 1 column) 3)
    (at_entry (λ r c. ltb 0 (class_at 1 c) && leb (class_at 1 c) 3) refl 1 column (omega arith) (omega arith) c1 c5) in
    (ltb-true 0 (class_at 1 column) t.0, leb-true (class_at 1 column) 3 t.1)

-- no entry above and to the left of an entry is "none" or larger
lower : ℕ → ℕ → ℕ → ℕ → Bool
lower row column row' column' =
    ltb row row' || ltb column column' || eqb (class_at row column) no_class
    || (ltb 0 (class_at row' column') && leb (class_at row' column') (class_at row column))

pub table_lower : (row column row' column' : ℕ) → row ≤ 7 → column ≤ 5 → 1 ≤ row' → row' ≤ row → 1 ≤ column' → column' ≤ column
    → (class_at row column ≡ no_class → ⊥) → (1 ≤ class_at row' column') × (class_at row' column' ≤ class_at row column)
unfolding class_at lower
table_lower row column row' column' r7 c5 r1 rl c1 cl some =
    let all = at_entry (λ r c. every_entry (lower r c)) refl row column (omega arith) r7 (omega arith) c5 in
    let here = at_entry (lower row column) all row' column' r1 (omega arith) c1 (omega arith) in
    let low : Bool = ltb 0 (class_at row' column') && leb (class_at row' column') (class_at row column) in
    let is : lower row column row' column' ≡ low =
    ap (λ (t : Bool). t || ltb column column' || eqb (class_at row column) no_class || low) (le-ltb row row' rl)
    ∙ ap (λ (t : Bool). t || eqb (class_at row column) no_class || low) (le-ltb column column' cl)
    ∙ ap (λ (t : Bool). t || low) (ne_eqb (class_at row column) no_class some) in
    let t = both (ltb 0 (class_at row' column')) (leb (class_at row' column') (class_at row column)) (sym is ∙ here) in
    (ltb-true 0 (class_at row' column') t.0, leb-true (class_at row' column') (class_at row column) t.1)

-- a class that is an entry of a column stands in one of its rows
pub entry_row : (column class : ℕ) → is_entry column class ≡ true → (row : ℕ) × (1 ≤ row) × (row ≤ 7) × (class_at row column ≡ class) × (1 ≤ class)
entry_row column class e =
    let p : ℕ → Bool = λ i. eqb (class_at (i + 1) column) class in
    let h = both (ltb 0 class) (any_below p 7) e in
    let at = any_some p 7 h.1 in
    (at.0 + 1, omega arith, omega (arith, at.1), eqb-true (class_at (at.0 + 1) column) class at.2, ltb-true 0 class h.0)

-- ---- the credits

pub credit_le : (which digit : ℕ) → which ≤ 3 → (credit_at which digit ≡ not_offered → ⊥) → credit_at which digit ≤ 2
unfolding credit_at
credit_le which digit w3 h = by_test (ltb digit 4) refl
  where
    test : ℕ → ℕ → Bool
    test w d = eqb (credit_at w d) not_offered || leb (credit_at w d) 2

    by_test : (t : Bool) → ltb digit 4 ≡ t → credit_at which digit ≤ 2
    by_test true e =
        let all = all_below_lem (λ w. all_below (test w) 4) 4 refl which (omega arith) in
        let here = all_below_lem (test which) 4 all digit (ltb-true digit 4 e) in
        leb-true (credit_at which digit) 2
        (sym (ap (λ (t : Bool). t || leb (credit_at which digit) 2) (ne_eqb (credit_at which digit) not_offered h)) ∙ here)
    by_test false e = absurd (h (simp e))
