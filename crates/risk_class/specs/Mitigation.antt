-- Document 01, "The mitigation word".
use Rattle.std.specs.Prelude.{Bool, cond, not, ◌||◌, ◌&&◌, List, [], ◌∷◌, ℕ, ◌+◌, ◌-◌, ◌/◌, ◌%◌, ◌^◌, max, ltb, eqb, ℤ, pos, get_or, Result}
use Rattle.std.proofs.Math.IntN.{sub_ℕ}
use Rattle.std.specs.Int.Signed.{lt_z}
use Rattle.arithmetic.specs.Conditions.{any_below}
use Rattle.refusal.specs.Numbers.{answer_as}
use Rattle.refusal.specs.Refusals.{Test, ◌when◌, answered}
use Rattle.refusal.specs.declared.Refusal.{Refusal}
use Rattle.risk_class.specs.ClassTable.{rows, class_at, wrong_column}
use Rattle.risk_class.specs.declared.mitigation.FinalClass.{FinalClass}

-- stands for the credit of a digit that isn't offered
abbrev pub not_offered : ℕ
not_offered = 255

-- a row for each of M1(A), M1(B), M1(C) and M2, by "Digit 0 none, 1 low, 2 medium, 3 high": "M1(A) 1 gives 1, 2 gives 2; M1(B) 2 gives 1, 3 gives 2; M1(C) 1 gives 1; M2 2 gives 1,
-- 3 gives 2; 0 gives nothing. Other digits aren't offered."
abbrev pub credit_table : List (List ℕ)
credit_table =
    (0 ∷ 1 ∷ 2 ∷ not_offered ∷ [])
    ∷ (0 ∷ not_offered ∷ 1 ∷ 2 ∷ [])
    ∷ (0 ∷ 1 ∷ not_offered ∷ not_offered ∷ [])
    ∷ (0 ∷ not_offered ∷ 1 ∷ 2 ∷ [])
    ∷ []

-- the credit of a digit
unfoldable pub credit_at : ℕ → ℕ → ℕ
credit_at which digit = cond (ltb digit 4) (get_or (get_or credit_table which []) digit 0) not_offered

-- "Four hexadecimal digits, in order M1(A), M1(B), M1(C), M2": the digits 0 to 3
abbrev pub digit_at : ℕ → ℕ → ℕ
digit_at word which = word / 16 ^ (3 - which) % 16

-- the credit that a word claims
abbrev pub credit_of : ℕ → ℕ → ℕ
credit_of word which = credit_at which (digit_at word which)

-- "11 a digit that isn't offered"
abbrev pub any_not_offered : ℕ → Bool
any_not_offered word =
    eqb (credit_of word 0) not_offered || eqb (credit_of word 1) not_offered || eqb (credit_of word 2) not_offered || eqb (credit_of word 3) not_offered

-- "an entry of that column", in one of the rows 1 to 7; "none" is no entry
abbrev pub is_entry : ℕ → ℕ → Bool
is_entry column class = ltb 0 class && any_below (λ i. eqb (class_at (i + 1) column) class) rows

-- "The three M1 credits come off the intrinsic class first, but never below the row 1 entry of the column."
abbrev pub after_m1 : ℕ → ℕ → ℕ → ℕ
after_m1 column class word = max (class_at 1 column) (class - (credit_of word 0 + credit_of word 1 + credit_of word 2))

-- "M2 comes off last, with no floor: the final class may be zero or negative"
abbrev pub final_class : ℕ → ℕ → ℕ → ℤ
final_class column class word = sub_ℕ (after_m1 column class word) (credit_of word 3)

-- "9 column not 1 to 5 or class not an entry of that column"
abbrev pub no_entry : ℕ → ℕ → Bool
no_entry column class = wrong_column column || not (is_entry column class)

-- "12 a final class above 7"
abbrev pub final_too_high : ℕ → ℕ → ℕ → Bool
final_too_high column class word = lt_z (pos 7) (final_class column class word)

-- "Mitigation refusals", in the order tested
abbrev pub mitigation_tests : ℕ → ℕ → ℕ → List Test
mitigation_tests column class word =
    9 when no_entry column class
    ∷ 11 when any_not_offered word
    ∷ 12 when final_too_high column class word
    ∷ []

-- "The answer is zero then; a final class of zero is told from it by the refusal number 0."
abbrev pub refused_final : ℕ → FinalClass
refused_final n = record { refusal = n; class = pos 0 }

abbrev pub accepted_final : ℤ → FinalClass
accepted_final class = record { refusal = 0; class = class }

-- what an answer of the code stands for: "a definition tells you this paper's number and values for each of its cases"
abbrev pub final_answer : Result ℤ Refusal → FinalClass
final_answer = answer_as accepted_final refused_final

-- the final class, or its refusal
unfoldable pub final_class_of : ℕ → ℕ → ℕ → FinalClass
final_class_of column class word = answered (mitigation_tests column class word) (accepted_final (final_class column class word)) refused_final
