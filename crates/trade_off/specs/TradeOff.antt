-- Fastest and heaviest for a column (document 02, item 5): "Crews ask daily for the trade-off tables of Annex F section 1.7.4."
use Rattle.std.specs.Prelude.{Bool, cond, not, ◌&&◌, List, [], ◌∷◌, ℕ, zero, suc, ◌+◌, eqb, leb, Result}
use Rattle.arithmetic.specs.Conditions.{any_below}
use Rattle.refusal.specs.Numbers.{answer_as}
use Rattle.refusal.specs.Refusals.{Test, ◌when◌, answered}
use Rattle.refusal.specs.declared.Refusal.{Refusal}
use Rattle.columns.specs.Column.{not_a_column}
use Rattle.sheet.specs.Ranges.{mass_max, speed_max}
use Rattle.sheet.specs.Sheet.{wrong_dimension, wrong_mass, wrong_speed, sheet_of}
use Rattle.trade_off.specs.declared.GreatestSpeed.{GreatestSpeed}
use Rattle.trade_off.specs.declared.GreatestMass.{GreatestMass}

-- "the sheet is accepted with a column no higher": of dimension, mass, speed and the wanted column
abbrev pub keeps_to : ℕ → ℕ → ℕ → ℕ → Bool
keeps_to w m v c =
    let answer = sheet_of w m v in eqb answer.refusal 0 && leb answer.sheet.column c

-- the greatest of 0, 1, .., n - 1 that passes a test; 0 where none does
unfoldable pub greatest_below : (ℕ → Bool) → ℕ → ℕ
greatest_below p zero = 0
greatest_below p (suc n) = cond (p n) n (greatest_below p n)

-- "Given dimension, mass and a column, the console answers the greatest speed from 0 to 40,000 for which the sheet is accepted with a column no higher."
abbrev pub fastest : ℕ → ℕ → ℕ → ℕ
fastest w m c = greatest_below (λ v. keeps_to w m v c) (speed_max + 1)

-- "Given dimension, speed and a column, it answers the greatest mass in range likewise." A mass below the range has no sheet that is accepted: refusal 2.
abbrev pub heaviest : ℕ → ℕ → ℕ → ℕ
heaviest w v c = greatest_below (λ m. keeps_to w m v c) (mass_max + 1)

-- "21 exactly when no such number exists"
abbrev pub no_speed : ℕ → ℕ → ℕ → Bool
no_speed w m c = not (any_below (λ v. keeps_to w m v c) (speed_max + 1))

abbrev pub no_mass : ℕ → ℕ → ℕ → Bool
no_mass w v c = not (any_below (λ m. keeps_to w m v c) (mass_max + 1))

-- "the given inputs' range refusals come first. 20 when the wanted column isn't 1 to 5."
abbrev pub greatest_speed_tests : ℕ → ℕ → ℕ → List Test
greatest_speed_tests w m c =
    1 when wrong_dimension w
    ∷ 2 when wrong_mass m
    ∷ 20 when not_a_column c
    ∷ 21 when no_speed w m c
    ∷ []

abbrev pub greatest_mass_tests : ℕ → ℕ → ℕ → List Test
greatest_mass_tests w v c =
    1 when wrong_dimension w
    ∷ 3 when wrong_speed v
    ∷ 20 when not_a_column c
    ∷ 21 when no_mass w v c
    ∷ []

-- the answers; "After a refusal every number is zero" (demand 1)
abbrev pub accepted_speed : ℕ → GreatestSpeed
accepted_speed v = record { refusal = 0; speed = v }

abbrev pub refused_speed : ℕ → GreatestSpeed
refused_speed n = record { refusal = n; speed = 0 }

abbrev pub accepted_mass : ℕ → GreatestMass
accepted_mass m = record { refusal = 0; mass = m }

abbrev pub refused_mass : ℕ → GreatestMass
refused_mass n = record { refusal = n; mass = 0 }

unfoldable pub greatest_speed_of : ℕ → ℕ → ℕ → GreatestSpeed
greatest_speed_of w m c = answered (greatest_speed_tests w m c) (accepted_speed (fastest w m c)) refused_speed

unfoldable pub greatest_mass_of : ℕ → ℕ → ℕ → GreatestMass
greatest_mass_of w v c = answered (greatest_mass_tests w v c) (accepted_mass (heaviest w v c)) refused_mass

-- what an answer of the code stands for: "a definition tells you this paper's number and values for each of its cases"
abbrev pub greatest_speed_answer : Result ℕ Refusal → GreatestSpeed
greatest_speed_answer = answer_as accepted_speed refused_speed

abbrev pub greatest_mass_answer : Result ℕ Refusal → GreatestMass
greatest_mass_answer = answer_as accepted_mass refused_mass
