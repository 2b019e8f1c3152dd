use Rattle.std.proofs.Common.{◌≡◌, ◌++◌, length, drop}
use Rattle.hex_text.specs.Digits.{digits}
use Rattle.hex_text.proofs.writer.write_digits.Given as goal

abbrev pub invariant-loop-i : goal.invariant-loop-i
invariant-loop-i l = digits l.i l.rest ++ drop l.i l.part ≡ digits (length l.initial.part) l.n
