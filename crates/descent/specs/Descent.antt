-- The descent from the operating height and its refusals (document 02, item 4).
use Rattle.std.specs.Prelude.{Bool, cond, ◌||◌, List, [], ◌∷◌, ◌++◌, ℕ, zero, suc, Float, Result}
use Rattle.std.specs.Float.{binary64}
use Rattle.std.specs.Float.Ieee.{mul, lt, le}
use Rattle.arithmetic.specs.Conditions.{outside}
use Rattle.refusal.specs.Numbers.{answer_as}
use Rattle.refusal.specs.Refusals.{Test, ◌when◌, answered}
use Rattle.refusal.specs.declared.Refusal.{Refusal}
use Rattle.frontal_area.specs.FrontalArea.{frontal_area_of, multirotor_tests}
use Rattle.fall.specs.Numbers.{whole, in_metres, in_kilograms, in_square_metres}
use Rattle.fall.specs.Step.{drag_factor_of, next_state}
use Rattle.fall.specs.declared.Fall.{Fall}
use Rattle.descent.specs.declared.Descent.{Descent}
use Rattle.descent.specs.declared.Landing.{Landing}
use Rattle.fall.specs.declared.Body.{Body}

-- the falling aircraft, of its dimension and mass
abbrev pub body_of : ℕ → ℕ → Body
body_of w m = record { drag_factor = drag_factor_of (in_square_metres (frontal_area_of w)); mass = in_kilograms m }

-- "The first state is the cruise speed, 0 and 0."
abbrev pub first_state : ℕ → Fall
first_state v = record { horizontal = in_metres v; downward = whole 0; fallen = whole 0 }

-- "a step makes either speed negative"
abbrev pub speed_negative : Fall → Bool
speed_negative s = lt s.horizontal (whole 0) || lt s.downward (whole 0)

-- a "state whose distance is at least the height"
abbrev pub ground_reached : Float → Fall → Bool
ground_reached h s = le h s.fallen

-- "The angle is above 60 degrees when downward speed squared exceeds 3 × (horizontal speed squared)."
abbrev pub above60 : Fall → Bool
above60 s =
    lt (mul binary64 (whole 3) (mul binary64 s.horizontal s.horizontal)) (mul binary64 s.downward s.downward)

-- "The answer gives that verdict, the end state and the number of steps, which is the number of states made after the first."
abbrev pub landed : ℕ → Fall → Descent
landed n s = record { refusal = 0; above_60 = cond (above60 s) 1 0; steps = n; end = s }

-- "After a refusal every number is zero" (demand 1)
abbrev pub refused_descent : ℕ → Descent
refused_descent n =
    record {
      refusal = n;
      above_60 = 0;
      steps = 0;
      end = record { horizontal = whole 0; downward = whole 0; fallen = whole 0 };
    }

-- what an answer of the code stands for: "a definition tells you this paper's number and values for each of its cases"
abbrev pub landed_answer : Landing → Descent
landed_answer l = record { refusal = 0; above_60 = cond l.above_60 1 0; steps = l.steps; end = l.end }

abbrev pub descent_answer : Result Landing Refusal → Descent
descent_answer = answer_as landed_answer refused_descent

-- The fall from the state s, which n steps made, with so many steps left in the budget. "The fall ends at the first state whose distance is at least the
-- height. [..] 18 when the definition's state after the whole budget is still short of the height. 19 when a step makes either speed negative, tested at each
-- new state before the ground and before 18."
unfoldable pub fall_from : Body → Float → ℕ → ℕ → Fall → Descent
fall_from b h zero n s = refused_descent 18
fall_from b h (suc left) n s =
    let next = next_state b s
    in cond (speed_negative next) (refused_descent 19)
    (cond (ground_reached h next) (landed (suc n) next) (fall_from b h left (suc n) next))

-- the fall of an aircraft within its ranges
unfoldable pub fall_of : ℕ → ℕ → ℕ → ℕ → ℕ → Descent
fall_of w m v height budget = fall_from (body_of w m) (in_metres height) budget 0 (first_state v)

-- "17 when, after 1, 2, 3 and 16, the height is outside 1 to 50,000 cm or the step budget outside 1 to 20,000."
abbrev pub height_max : ℕ
height_max = 50000

abbrev pub budget_max : ℕ
budget_max = 20000

abbrev pub fall_tests : ℕ → ℕ → List Test
fall_tests height budget = 17 when (outside 1 height_max height || outside 1 budget_max budget) ∷ []

abbrev pub descent_tests : ℕ → ℕ → ℕ → ℕ → ℕ → List Test
descent_tests w m v height budget = multirotor_tests w m v ++ fall_tests height budget

unfoldable pub descent_of : ℕ → ℕ → ℕ → ℕ → ℕ → Descent
descent_of w m v height budget = answered (descent_tests w m v height budget) (fall_of w m v height budget) refused_descent
