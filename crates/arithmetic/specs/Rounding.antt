-- Division that rounds up.
use Rattle.std.specs.Prelude.{ℕ, ◌+◌, ◌-◌, ◌/◌}

-- a / b rounded up; 0 where b is 0, as a / 0 is
unfoldable pub div_up : ℕ → ℕ → ℕ
div_up a b = (a + (b - 1)) / b
