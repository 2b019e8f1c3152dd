use mathlib.Core.Path.{◌≡◌, sym}
use mathlib.Core.Bool.{true}
use lib.Ieee.{lt}
use Rattle.std.proofs.lemmas.Float.{T_from_true}
use Rattle.arithmetic.proofs.TestLaws.{both}
use Rattle.fall.specs.Numbers.{whole}
use Rattle.fall.proofs.Literals.{zero_is}
use Rattle.fall.proofs.FloatLaws.{same_above_zero}
use Rattle.fall.proofs.same_above_zero.Goals as goal

-- `same_above_zero` compares two numbers that f64 holds.

pub returns-clause-value : goal.returns-clause-value
returns-clause-value c = simp zero_is

pub returns-clause-same : goal.returns-clause-same
returns-clause-same c = λ h.
    let tests = both _ _ h in
    let above : lt (whole 0) c.args.y ≡ true = rw (sym zero_is) tests.1 in
    same_above_zero c.args.x c.args.y (T_from_true _ c.well_formed.0.1) (T_from_true _ c.well_formed.1.0.1) tests.0 above
