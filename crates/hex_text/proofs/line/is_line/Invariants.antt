use Rattle.std.proofs.Common.{◌≡◌, leb, get_or}
use Rattle.arithmetic.specs.Lists.{every}
use Rattle.hex_text.specs.Digits.{is_digit}
use Rattle.hex_text.proofs.line.is_line.Given as goal

abbrev pub invariant-loop-digit : goal.invariant-loop-digit
invariant-loop-digit l = leb l.largest 5 ≡ every (λ k. is_digit (get_or l.digits k 0)) l.digit-index
