use mathlib.Core.Path.{◌≡◌, ap, sym, ◌∙◌}
use Prim.Native.Nat.{◌+◌, ◌-◌}
use native.Mathlib.Omega.{arith}
use lib.Ieee.{Float, eq}
use Rattle.fall.specs.Step.{after_rounds}
use Rattle.fall.proofs.FloatLaws.{guess_fits, guess_stays, round_made, rounds_made}
use Rattle.fall.proofs.six_rounds.Goals as goal

pub loop-round-init : goal.loop-round-init
loop-round-init c =
    (rw c.next_guess-guess.ensures (guess_fits c.args.sum c.args.first), round_made 6 0 c.args.sum c.args.first (omega arith) ∙ ap (after_rounds 5 c.args.sum) (sym c.next_guess-guess.ensures))

pub returns-then-next-guess : goal.returns-then-next-guess
returns-then-next-guess c =
    c.next_guess-next.ensures
    ∙ guess_stays (6 - c.loop-round._round) c.args.sum c.loop-round.guess c.loop-round.invariant.0 (ap (λ (x : Float). eq x c.loop-round.guess) (sym c.next_guess-next.ensures) ∙ c.if-next-guess.true)
    ∙ sym c.loop-round.invariant.1

pub loop-round-preserved : goal.loop-round-preserved
loop-round-preserved c = (
  rw c.next_guess-next.ensures (guess_fits c.args.sum c.loop-round.guess),
  c.loop-round.invariant.1 ∙ round_made 6 c.loop-round._round c.args.sum c.loop-round.guess (omega arith) ∙ ap (after_rounds (6 - (c.loop-round._round + 1)) c.args.sum) (sym c.next_guess-next.ensures),
)

pub returns : goal.returns
returns c =
    let left : 6 - c.loop-round._round ≡ 0 = omega arith in
    sym (c.loop-round.invariant.1 ∙ rw left (rounds_made _ c.loop-round.guess))
