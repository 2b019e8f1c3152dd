-- What is given for either answer, and the limit of the wanted column. Only private functions are stated by it.
use Rattle.std.specs.Prelude.{◌≡◌, List, [], ◌∷◌, ◌++◌, ℕ, ◌-◌, Result, Ok, Err}
use Rattle.refusal.specs.Refusals.{Test, ◌when◌}
use Rattle.refusal.specs.declared.Refusal.{Refusal}
use Rattle.columns.specs.Column.{limit_at, not_a_column}
use Rattle.sheet.specs.Sheet.{range_tests}

-- refusals 1 to 3 of the aircraft, then 20
abbrev pub given_tests : ℕ → ℕ → ℕ → ℕ → List Test
given_tests w m v c = range_tests w m v ++ (20 when not_a_column c ∷ [])

-- where none is given, the limit is the column's
abbrev pub LimitGiven : ℕ → Result ℕ Refusal → Type 0
LimitGiven c (Ok limit) = limit_at (c - 1) ≡ limit
LimitGiven c (Err _) = Prim.Unit {0}
