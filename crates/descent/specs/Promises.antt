-- What is promised of every descent.
use Rattle.std.specs.Prelude.{◌≡◌, ◌↔◌, true, false, cond, [], ◌∷◌, ℕ, ◌^◌, ◌≤◌, ◌<◌}
use Rattle.arithmetic.specs.Fraction.{◌over◌}
use Rattle.refusal.specs.Refusals.{FirstToHold, OneOf, numbers}
use Rattle.frontal_area.specs.FrontalArea.{MultirotorInRange}
use Rattle.fall.specs.Numbers.{decimal, divided_by, in_metres}
use Rattle.fall.specs.Step.{state_after}
use Rattle.descent.specs.Descent.{body_of, first_state, speed_negative, ground_reached, above60, refused_descent, height_max, budget_max, descent_tests, descent_of}
use Rattle.fall.specs.declared.Fall.{Fall}
use Rattle.descent.specs.declared.Descent.{Descent}

-- the state that n steps make of an aircraft's first one
abbrev pub state_of : ℕ → ℕ → ℕ → ℕ → Fall
state_of w m v n = state_after (body_of w m) (first_state v) n

-- short of the height, with no negative speed
pub record InTheAir (height : ℕ) (s : Fall) : Type 0 where
  pub short : ground_reached (in_metres height) s ≡ false
  pub not_negative : speed_negative s ≡ false

-- "The fall ends at the first state whose distance is at least the height."
pub record EndsAt (w m v height n : ℕ) : Type 0 where
  pub reached : ground_reached (in_metres height) (state_of w m v n) ≡ true
  pub not_negative : speed_negative (state_of w m v n) ≡ false
  -- every earlier state, the first one too
  pub earlier : (k : ℕ) → k < n → InTheAir height (state_of w m v k)

-- "19 when a step makes either speed negative, tested at each new state before the ground and before 18"
pub record TurnsNegativeAt (w m v height n : ℕ) : Type 0 where
  pub negative : speed_negative (state_of w m v n) ≡ true
  pub short : (k : ℕ) → k < n → ground_reached (in_metres height) (state_of w m v k) ≡ false

-- the inputs within their ranges
pub record DescentInRange (w m v height budget : ℕ) : Type 0 where
  pub aircraft : MultirotorInRange w m v
  pub height_least : 1 ≤ height
  pub height_most : height ≤ height_max
  pub budget_least : 1 ≤ budget
  pub budget_most : budget ≤ budget_max

-- within the ranges, one of the states that the budget makes has the property
pub record WithinBudget (w m v height budget : ℕ) (At : ℕ → Type 0) : Type 0 where
  pub ranges : DescentInRange w m v height budget
  pub number : ℕ
  pub least : 1 ≤ number
  pub most : number ≤ budget
  pub holds : At number

-- an answer that isn't refused
pub record Landed (w m v height budget : ℕ) (a : Descent) : Type 0 where
  -- "the number of steps, which is the number of states made after the first": so many steps make the end state of the first
  pub end_is : a.end ≡ state_of w m v a.steps
  pub ends : EndsAt w m v height a.steps
  pub steps_least : 1 ≤ a.steps
  pub steps_most : a.steps ≤ budget
  pub verdict : a.above_60 ≡ cond (above60 a.end) 1 0

-- what is promised of the answer to any five numbers
pub record DescentPromise (w m v height budget : ℕ) (a : Descent) : Type 0 where
  -- 1, 2, 3, 16 and 17 each exactly when its test is the first that holds
  pub inputs : (n : ℕ) → OneOf n (numbers (descent_tests w m v height budget)) → a.refusal ≡ n ↔ FirstToHold (descent_tests w m v height budget) n
  -- "18 when the definition's state after the whole budget is still short of the height": every state of the budget is in the air
  pub eighteen : a.refusal ≡ 18 ↔ DescentInRange w m v height budget × ((k : ℕ) → k ≤ budget → InTheAir height (state_of w m v k))
  -- such a state comes within the budget, and none before it has reached the ground
  pub nineteen : a.refusal ≡ 19 ↔ WithinBudget w m v height budget (TurnsNegativeAt w m v height)
  -- no refusal: a state within the budget has reached the ground, and neither it nor one before it has a negative speed
  pub none : a.refusal ≡ 0 ↔ WithinBudget w m v height budget (EndsAt w m v height)
  pub listed : OneOf a.refusal (0 ∷ 1 ∷ 2 ∷ 3 ∷ 16 ∷ 17 ∷ 18 ∷ 19 ∷ [])
  pub if_accepted : a.refusal ≡ 0 → Landed w m v height budget a
  pub if_refused : (a.refusal ≡ 0 → ⊥) → a ≡ refused_descent a.refusal

-- a larger budget never changes an answer that was given, nor a refusal 19
pub record BudgetLaw (w m v height budget more : ℕ) : Type 0 where
  pub accepted : (descent_of w m v height budget).refusal ≡ 0 → descent_of w m v height more ≡ descent_of w m v height budget
  pub refused_19 : (descent_of w m v height budget).refusal ≡ 19 → descent_of w m v height more ≡ descent_of w m v height budget

-- an input in metres, kilograms or square metres is the f64 nearest to the exact fraction
abbrev pub DivisionNearest : ℕ → ℕ → Type 0
DivisionNearest n d = divided_by d n ≡ decimal (n over d)

pub record DescentLaws : Type 0 where
  pub division : (n d : ℕ) → n ≤ 2 ^ 53 → 0 < d → d ≤ 2 ^ 53 → DivisionNearest n d
  pub promise : (w m v height budget : ℕ) → DescentPromise w m v height budget (descent_of w m v height budget)
  pub budget : (w m v height budget more : ℕ) → budget ≤ more → more ≤ budget_max → BudgetLaw w m v height budget more
