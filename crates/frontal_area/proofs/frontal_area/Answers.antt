use mathlib.Core.Path.{sym}
use native.Mathlib.Omega.{arith}
use Rattle.frontal_area.proofs.FrontalLaws.{line_1, line_2, line_3, line_4, past_lines}
use Rattle.frontal_area.proofs.frontal_area.Goals as goal

-- `frontal_area` takes the line that the dimension lies on.

pub returns-then-dimension-lt1000 : goal.returns-then-dimension-lt1000
returns-then-dimension-lt1000 c = omega (arith, line_1 c.args.dimension (omega arith))

pub returns-then-dimension-le3000 : goal.returns-then-dimension-le3000
returns-then-dimension-le3000 c = sym (line_1 _ (omega arith))

pub returns-then-dimension-le8000 : goal.returns-then-dimension-le8000
returns-then-dimension-le8000 c = sym (line_2 _ (omega arith) (omega arith))

pub returns-then-dimension-le20000 : goal.returns-then-dimension-le20000
returns-then-dimension-le20000 c = sym (line_3 _ (omega arith) (omega arith))

pub returns-then-dimension-le40000 : goal.returns-then-dimension-le40000
returns-then-dimension-le40000 c = sym (line_4 _ (omega arith) (omega arith))

pub returns : goal.returns
returns c = sym (past_lines _ (omega arith))
