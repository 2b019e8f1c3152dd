-- What is promised of the greatest speed and the greatest mass for a column.
use Rattle.std.specs.Prelude.{◌≡◌, Bool, true, false, ◌↔◌, ℕ, ◌≤◌, ◌<◌}
use Rattle.refusal.specs.Refusals.{AnswerPromise}
use Rattle.columns.specs.Column.{column_count}
use Rattle.sheet.specs.Ranges.{mass_min, mass_max, speed_max, InRange}
use Rattle.sheet.specs.Lines.{formula_of}
use Rattle.sheet.specs.Sheet.{sheet_of}
use Rattle.sheet.specs.declared.Formula.TheVariants.{GlideOnly}
use Rattle.trade_off.specs.declared.GreatestSpeed.{GreatestSpeed}
use Rattle.trade_off.specs.declared.GreatestMass.{GreatestMass}
use Rattle.trade_off.specs.TradeOff.{keeps_to, fastest, heaviest, greatest_speed_tests, greatest_mass_tests, accepted_speed, refused_speed, accepted_mass, refused_mass, greatest_speed_of, greatest_mass_of}

-- a number of the range passes the test, and no larger one of the range does; each smaller one of the range does
pub record GreatestOf (low high : ℕ) (p : ℕ → Bool) (g : ℕ) : Type 0 where
  pub least : low ≤ g
  pub most : g ≤ high
  pub passes : p g ≡ true
  pub no_larger : (n : ℕ) → g < n → n ≤ high → p n ≡ false
  pub smaller : (n : ℕ) → low ≤ n → n ≤ g → p n ≡ true

-- "the sheet is accepted with a column no higher"
pub record PutIntoTheSheet (w m v c : ℕ) : Type 0 where
  pub accepted : (sheet_of w m v).refusal ≡ 0
  pub no_higher : (sheet_of w m v).sheet.column ≤ c

pub record GreatestSpeedPromise (w m c : ℕ) : Type 0 where
  -- each refusal exactly when its test is the first that holds; after a refusal the speed is 0
  pub answer : AnswerPromise (λ (a : GreatestSpeed). a.refusal) (greatest_speed_tests w m c) (accepted_speed (fastest w m c)) refused_speed (greatest_speed_of w m c)
  pub greatest : (greatest_speed_of w m c).refusal ≡ 0 → GreatestOf 0 speed_max (λ v. keeps_to w m v c) (greatest_speed_of w m c).speed
  pub put_in : (greatest_speed_of w m c).refusal ≡ 0 → PutIntoTheSheet w m (greatest_speed_of w m c).speed c
  -- "21 exactly when no such number exists"
  pub twenty_one : (greatest_speed_of w m c).refusal ≡ 21
      ↔ InRange w m 0 × ((1 ≤ c) × (c ≤ column_count)) × ((v : ℕ) → v ≤ speed_max → keeps_to w m v c ≡ false)

pub record GreatestMassPromise (w v c : ℕ) : Type 0 where
  pub answer : AnswerPromise (λ (a : GreatestMass). a.refusal) (greatest_mass_tests w v c) (accepted_mass (heaviest w v c)) refused_mass (greatest_mass_of w v c)
  pub greatest : (greatest_mass_of w v c).refusal ≡ 0 → GreatestOf mass_min mass_max (λ m. keeps_to w m v c) (greatest_mass_of w v c).mass
  pub put_in : (greatest_mass_of w v c).refusal ≡ 0 → PutIntoTheSheet w (greatest_mass_of w v c).mass v c
  pub twenty_one : (greatest_mass_of w v c).refusal ≡ 21
      ↔ InRange w mass_min v × ((1 ≤ c) × (c ≤ column_count)) × ((m : ℕ) → mass_min ≤ m → m ≤ mass_max → keeps_to w m v c ≡ false)

-- where the first answer is accepted so is the second, and it isn't lower
abbrev pub SpeedNoLower : GreatestSpeed → GreatestSpeed → Type 0
SpeedNoLower a b = a.refusal ≡ 0 → (b.refusal ≡ 0) × (a.speed ≤ b.speed)

abbrev pub MassNoLower : GreatestMass → GreatestMass → Type 0
MassNoLower a b = a.refusal ≡ 0 → (b.refusal ≡ 0) × (a.mass ≤ b.mass)

-- an aircraft in range keeps to a column exactly where its speed is at most the greatest for its mass, and exactly where its mass is at most the greatest
-- for its speed
pub record KeepsExactlyWhen (w m v c : ℕ) : Type 0 where
  pub by_speed : keeps_to w m v c ≡ true ↔ ((greatest_speed_of w m c).refusal ≡ 0) × (v ≤ (greatest_speed_of w m c).speed)
  pub by_mass : keeps_to w m v c ≡ true ↔ ((greatest_mass_of w v c).refusal ≡ 0) × (m ≤ (greatest_mass_of w v c).mass)

-- laws that a planner would check
pub record TradeOffLaws : Type 0 where
  -- a higher column never lowers an answer
  pub higher_column_speed : (w m c c' : ℕ) → c ≤ c' → c' ≤ column_count → SpeedNoLower (greatest_speed_of w m c) (greatest_speed_of w m c')
  pub higher_column_mass : (w v c c' : ℕ) → c ≤ c' → c' ≤ column_count → MassNoLower (greatest_mass_of w v c) (greatest_mass_of w v c')
  -- a heavier aircraft never has a greater greatest speed, a faster one never a greater greatest mass
  pub heavier : (w m m' c : ℕ) → mass_min ≤ m → m ≤ m' → SpeedNoLower (greatest_speed_of w m' c) (greatest_speed_of w m c)
  pub faster : (w v v' c : ℕ) → v ≤ v' → MassNoLower (greatest_mass_of w v' c) (greatest_mass_of w v c)
  -- where the area has no slide, every column answers the end of the range
  pub no_slide_speed : (w m c : ℕ) → formula_of w ≡ GlideOnly → InRange w m 0 → 1 ≤ c → c ≤ column_count → greatest_speed_of w m c ≡ accepted_speed speed_max
  pub no_slide_mass : (w v c : ℕ) → formula_of w ≡ GlideOnly → InRange w mass_min v → 1 ≤ c → c ≤ column_count → greatest_mass_of w v c ≡ accepted_mass mass_max
  -- and the two answers say the same of every aircraft
  pub keeps : (w m v c : ℕ) → InRange w m v → 1 ≤ c → c ≤ column_count → KeepsExactlyWhen w m v c
