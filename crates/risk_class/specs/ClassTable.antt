-- Document 01, "The class table".
use Rattle.std.specs.Prelude.{Bool, cond, ◌||◌, List, [], ◌∷◌, ℕ, ◌-◌, ltb, eqb, get_or, Result}
use Rattle.arithmetic.specs.Conditions.{outside}
use Rattle.refusal.specs.Numbers.{answer_as}
use Rattle.refusal.specs.Refusals.{Test, ◌when◌, answered}
use Rattle.refusal.specs.declared.Refusal.{Refusal}
use Rattle.risk_class.specs.declared.class_table.IntrinsicClass.{IntrinsicClass}

-- an entry that is "none"
abbrev pub no_class : ℕ
no_class = 0

-- columns 1 to 5 and rows 1 to 7
abbrev pub columns : ℕ
columns = 5

abbrev pub rows : ℕ
rows = 7

-- rows 1 to 7, row 1 for controlled ground, of columns 1 to 5
abbrev pub class_table : List (List ℕ)
class_table =
    (1 ∷ 1 ∷ 2 ∷ 3 ∷ 3 ∷ [])
    ∷ (2 ∷ 3 ∷ 4 ∷ 5 ∷ 6 ∷ [])
    ∷ (3 ∷ 4 ∷ 5 ∷ 6 ∷ 7 ∷ [])
    ∷ (4 ∷ 5 ∷ 6 ∷ 7 ∷ 8 ∷ [])
    ∷ (5 ∷ 6 ∷ 7 ∷ 8 ∷ 9 ∷ [])
    ∷ (6 ∷ 7 ∷ 8 ∷ 9 ∷ 10 ∷ [])
    ∷ (7 ∷ 8 ∷ no_class ∷ no_class ∷ no_class ∷ [])
    ∷ []

-- the entry of a row and a column, both counted from 1
unfoldable pub class_at : ℕ → ℕ → ℕ
class_at row column = get_or (get_or class_table (row - 1) []) (column - 1) no_class

-- "A controlled-ground mark of 1 puts row 1 in place of the footprint's row; 0 keeps it."
abbrev pub used_row : ℕ → ℕ → ℕ
used_row row controlled = cond (eqb controlled 1) 1 row

-- "column not 1 to 5"
abbrev pub wrong_column : ℕ → Bool
wrong_column column = outside 1 columns column

-- "9 column not 1 to 5, row not 2 to 7, or mark not 0 or 1"
abbrev pub outside_table : ℕ → ℕ → ℕ → Bool
outside_table column row controlled = wrong_column column || outside 2 rows row || ltb 1 controlled

-- "10 the entry is "none""
abbrev pub entry_is_none : ℕ → ℕ → ℕ → Bool
entry_is_none column row controlled = eqb (class_at (used_row row controlled) column) no_class

-- "Class refusals", in the order tested
abbrev pub class_tests : ℕ → ℕ → ℕ → List Test
class_tests column row controlled =
    9 when outside_table column row controlled
    ∷ 10 when entry_is_none column row controlled
    ∷ []

-- "The answer is zero then."
abbrev pub refused_class : ℕ → IntrinsicClass
refused_class n = record { refusal = n; class = 0 }

abbrev pub accepted_class : ℕ → IntrinsicClass
accepted_class class = record { refusal = 0; class = class }

-- what an answer of the code stands for: "a definition tells you this paper's number and values for each of its cases"
abbrev pub intrinsic_answer : Result ℕ Refusal → IntrinsicClass
intrinsic_answer = answer_as accepted_class refused_class

-- the intrinsic class, or its refusal
unfoldable pub intrinsic_class_of : ℕ → ℕ → ℕ → IntrinsicClass
intrinsic_class_of column row controlled =
    answered (class_tests column row controlled) (accepted_class (class_at (used_row row controlled) column)) refused_class
