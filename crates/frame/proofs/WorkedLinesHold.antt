-- The printed lines of specs/WorkedLines.antt are those that the papers show.
use mathlib.Core.Path.{refl}
use Rattle.hex_text.specs.Digits.{digits}
use Rattle.frame.specs.Frame.{frame_line, refusal_line}
use Rattle.frame.specs.WorkedLines.{WorkedLines}

pub worked_lines : WorkedLines
unfolding frame_line refusal_line digits
worked_lines = record { p16 = refl; refusal_10 = refl; minus_one = refl }
