use mathlib.Core.Path.{◌≡◌}
use Prim.Native.Nat.{◌-◌}
use lib.Dec.{T}
use lib.Ieee.{binary64, fits}
use Rattle.fall.specs.Step.{after_rounds}
use Rattle.fall.proofs.six_rounds.Given as goal

-- `six_rounds` makes six rounds, or leaves out those that would return their guess.

abbrev pub invariant-loop-round : goal.invariant-loop-round
invariant-loop-round l =
    T (fits binary64 l.guess) × (after_rounds 6 l.sum l.first ≡ after_rounds (6 - l._round) l.sum l.guess)
