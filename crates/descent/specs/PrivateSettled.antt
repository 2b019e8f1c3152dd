-- A fall whose speeds no longer change. Only private functions are stated by it.
use Rattle.std.specs.Prelude.{◌≡◌, true}
use Rattle.std.specs.Float.Ieee.{lt}
use Rattle.fall.specs.Numbers.{whole}
use Rattle.fall.specs.Step.{next_horizontal, next_downward}
use Rattle.fall.specs.declared.Body.{Body}
use Rattle.fall.specs.declared.Fall.{Fall}

-- both speeds are above zero, and a step leaves them as they are
pub record Settled (b : Body) (s : Fall) : Type 0 where
  pub horizontal_above : lt (whole 0) s.horizontal ≡ true
  pub downward_above : lt (whole 0) s.downward ≡ true
  pub horizontal_stays : next_horizontal b s ≡ s.horizontal
  pub downward_stays : next_downward b s ≡ s.downward
