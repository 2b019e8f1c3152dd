-- One step of the fall (document 02, item 4; annex 1 of 002): the state is horizontal speed, downward speed and distance fallen, in m/s, m/s and m.
use Rattle.std.specs.Prelude.{cond, ◌&&◌, ℕ, zero, suc, Float}
use Rattle.std.specs.Float.{binary64}
use Rattle.std.specs.Float.Ieee.{add, sub, mul, div, eq}
use Rattle.arithmetic.specs.Fraction.{◌over◌}
use Rattle.fall.specs.Numbers.{decimal, whole}
use Rattle.fall.specs.declared.Fall.{Fall}
use Rattle.fall.specs.declared.Body.{Body}

-- "Each step is 0.01 s."
abbrev pub time_step : Float
time_step = decimal (1 over 100)

abbrev pub half : Float
half = decimal (5 over 10)

abbrev pub air_density : Float
air_density = decimal (1225 over 1000)

abbrev pub drag_coefficient : Float
drag_coefficient = decimal (8 over 10)

abbrev pub gravity : Float
gravity = decimal (981 over 100)

-- "sum over guess, added to the guess, times 0.5"
unfoldable pub next_guess : Float → Float → Float
next_guess sum guess = mul binary64 (add binary64 guess (div binary64 sum guess)) half

unfoldable pub after_rounds : ℕ → Float → Float → Float
after_rounds zero sum guess = guess
after_rounds (suc n) sum guess = after_rounds n sum (next_guess sum guess)

abbrev pub squares : Fall → Float
squares s = add binary64 (mul binary64 s.horizontal s.horizontal) (mul binary64 s.downward s.downward)

-- "The first guess is the two speeds added"
abbrev pub first_guess : Fall → Float
first_guess s = add binary64 s.horizontal s.downward

-- "Speed is found from the sum of the squares by six rounds: [..] speed is 0 when both are 0."
unfoldable pub speed_of : Fall → Float
speed_of s =
    cond (eq s.horizontal (whole 0) && eq s.downward (whole 0)) (whole 0) (after_rounds 6 (squares s) (first_guess s))

-- "Drag per speed is 0.5 × 1.225 × frontal area × 0.8 × speed, in that order." All but the speed is the body's, the same at every step.
unfoldable pub drag_factor_of : Float → Float
drag_factor_of area = mul binary64 (mul binary64 (mul binary64 half air_density) area) drag_coefficient

unfoldable pub drag_per_speed : Body → Fall → Float
drag_per_speed b s = mul binary64 b.drag_factor (speed_of s)

-- "A speed's slowing is drag per speed × that speed / mass."
unfoldable pub slowing : Body → Fall → Float → Float
slowing b s speed = div binary64 (mul binary64 (drag_per_speed b s) speed) b.mass

-- "The new horizontal speed is the old less (slowing × step)."
unfoldable pub next_horizontal : Body → Fall → Float
next_horizontal b s = sub binary64 s.horizontal (mul binary64 (slowing b s s.horizontal) time_step)

-- "The new downward speed is the old plus ((9.81 less slowing) × step)."
unfoldable pub next_downward : Body → Fall → Float
next_downward b s = add binary64 s.downward (mul binary64 (sub binary64 gravity (slowing b s s.downward)) time_step)

-- "The distance grows by 0.5 × (old plus new downward speed) × step."
abbrev pub fallen_to : Fall → Float → Float
fallen_to s downward =
    add binary64 s.fallen (mul binary64 (mul binary64 half (add binary64 s.downward downward)) time_step)

unfoldable pub next_fallen : Body → Fall → Float
next_fallen b s = fallen_to s (next_downward b s)

-- the state after one step: "Both new speeds come from the old state."
unfoldable pub next_state : Body → Fall → Fall
next_state b s = record { horizontal = next_horizontal b s; downward = next_downward b s; fallen = next_fallen b s }

-- the state after n steps
unfoldable pub state_after : Body → Fall → ℕ → Fall
state_after b s zero = s
state_after b s (suc n) = next_state b (state_after b s n)
