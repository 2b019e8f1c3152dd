-- Laws of the refusals' numbers.
use mathlib.Core.Path.{◌≡◌, ap}
use Rattle.std.proofs.Common.{Result, Ok, Err}
use Rattle.std.specs.Result.{IsErrAnd}
use Prim.Native.Nat.{ℕ}
use native.Mathlib.Omega.{arith}
use Rattle.refusal.specs.declared.Refusal.{Refusal}
use Rattle.refusal.specs.declared.Refusal.TheVariants.{Dimension, Mass, Speed, Area, BufferLength, CellArea, HeadCount, NoMark, ClassInput, NoClass, MitigationDigit, FinalClass, TextLength, TextByte, FrameLength, NoFrontalArea, HeightOrBudget, BudgetSpent, NegativeSpeed, WantedColumn, NoneForColumn}
use Rattle.refusal.specs.Numbers.{number_of, answer_as}

-- no refusal has the number of none
pub number_nonzero : (r : Refusal) → number_of r ≡ 0 → ⊥
number_nonzero Dimension e = omega (arith, e)
number_nonzero Mass e = omega (arith, e)
number_nonzero Speed e = omega (arith, e)
number_nonzero Area e = omega (arith, e)
number_nonzero BufferLength e = omega (arith, e)
number_nonzero CellArea e = omega (arith, e)
number_nonzero HeadCount e = omega (arith, e)
number_nonzero NoMark e = omega (arith, e)
number_nonzero ClassInput e = omega (arith, e)
number_nonzero NoClass e = omega (arith, e)
number_nonzero MitigationDigit e = omega (arith, e)
number_nonzero FinalClass e = omega (arith, e)
number_nonzero TextLength e = omega (arith, e)
number_nonzero TextByte e = omega (arith, e)
number_nonzero FrameLength e = omega (arith, e)
number_nonzero NoFrontalArea e = omega (arith, e)
number_nonzero HeightOrBudget e = omega (arith, e)
number_nonzero BudgetSpent e = omega (arith, e)
number_nonzero NegativeSpeed e = omega (arith, e)
number_nonzero WantedColumn e = omega (arith, e)
number_nonzero NoneForColumn e = omega (arith, e)

-- an error that is passed on is the answer refused with its number
pub passed_on : {A B : Type 0} (accepted : A → B) (refused : ℕ → B) (r : Result A Refusal) (e : Refusal) → IsErrAnd r (λ x. x ≡ e)
    → answer_as accepted refused r ≡ refused (number_of e)
passed_on accepted refused (Ok _) e h = absurd h
passed_on accepted refused (Err x) e h = ap (λ y. refused (number_of y)) h
