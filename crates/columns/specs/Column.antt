-- The column of the class table and the flag.
use Rattle.std.specs.Prelude.{Bool, cond, List, [], ◌∷◌, ℕ, suc, ◌-◌, eqb, leb, ltb, get_or, Option, None, Some}
use Rattle.arithmetic.specs.Conditions.{outside}
use Rattle.columns.specs.declared.Bracket.{Bracket}
use Rattle.columns.specs.declared.ColumnAndFlag.{ColumnAndFlag}

-- the columns' area limits: "65,000; 650,000; 6,500,000; 65,000,000; 650,000,000 square centimetres"
abbrev pub last_limit : ℕ
last_limit = 650000000

abbrev pub limits : List ℕ
limits = 65000 ∷ 650000 ∷ 6500000 ∷ 65000000 ∷ last_limit ∷ []

abbrev pub column_count : ℕ
column_count = 5

-- the limit of column i + 1
abbrev pub limit_at : ℕ → ℕ
limit_at i = get_or limits i 0

-- the first entry of a table that passes a test, counted from k; 0 where none does
abbrev pub first_from : {A : Type 0} → (A → Bool) → ℕ → List A → ℕ
first_from p k [] = 0
first_from p k (x ∷ xs) = cond (p x) k (first_from p (suc k) xs)

-- the first column whose limit passes a test; 0 where none does
unfoldable pub column_by : (ℕ → Bool) → ℕ
column_by under = first_from under 1 limits

-- "The column is the first whose area limit is at least the high area"; 0 above the last limit
unfoldable pub column_of : ℕ → ℕ
column_of high = column_by (leb high)

-- "The flag is 1 when the column isn't the first and the low area is at most the limit before it, otherwise 0."
unfoldable pub flag_of : ℕ → ℕ → ℕ
flag_of low column = cond (ltb 1 column) (cond (leb low (limit_at (column - 2))) 1 0) 0

abbrev pub column_and_flag : ℕ → ℕ → ColumnAndFlag
column_and_flag column flag = record { column = column; flag = flag }

-- the column and the flag of an area
abbrev pub column_and_flag_of : Bracket → ColumnAndFlag
column_and_flag_of area = column_and_flag (column_of area.high) (flag_of area.low (column_of area.high))

-- what the code gives for them: "above the last limit" no column is found
abbrev pub column_found : ColumnAndFlag → Option ColumnAndFlag
column_found c = cond (eqb c.column 0) None (Some c)

-- "the wanted column isn't 1 to 5" (document 02, item 5)
abbrev pub not_a_column : ℕ → Bool
not_a_column c = outside 1 column_count c

-- what the code gives for a column's limit: none where it is no column
abbrev pub limit_of_column : ℕ → Option ℕ
limit_of_column c = cond (not_a_column c) None (Some (limit_at (c - 1)))
