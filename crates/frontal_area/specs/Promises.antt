-- What holds of every frontal area, and of its refusal.
use Rattle.std.specs.Prelude.{◌≡◌, true, ◌↔◌, ℕ, ◌≤◌}
use Rattle.refusal.specs.Refusals.{first_refusal}
use Rattle.sheet.specs.Ranges.{InRange}
use Rattle.frontal_area.specs.FrontalArea.{frontal_area_of, no_frontal_area, multirotor_tests, MultirotorInRange}

pub record FrontalAreaPromise : Type 0 where
  pub least : (w : ℕ) → 100000 ≤ frontal_area_of w
  pub most : (w : ℕ) → frontal_area_of w ≤ 25000000
  -- a larger multirotor never has a smaller one
  pub grows : (w w' : ℕ) → w ≤ w' → frontal_area_of w ≤ frontal_area_of w'

-- "16 when, after 1 to 3, the dimension is outside 1,000 to 40,000 mm", and no refusal exactly when both are within
pub record MultirotorRefusal (w m v : ℕ) : Type 0 where
  pub sixteen : first_refusal (multirotor_tests w m v) ≡ 16 ↔ InRange w m v × (no_frontal_area w ≡ true)
  pub none : first_refusal (multirotor_tests w m v) ≡ 0 ↔ MultirotorInRange w m v
