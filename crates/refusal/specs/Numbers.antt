-- The numbers of the refusals: "When an answer is an enum, a definition tells you this paper's number and values for each of its cases."
use Rattle.std.specs.Prelude.{ℕ, Result, Ok, Err}
use Rattle.refusal.specs.declared.Refusal.{Refusal}
use Rattle.refusal.specs.declared.Refusal.TheVariants.{Dimension, Mass, Speed, Area, BufferLength, CellArea, HeadCount, NoMark, ClassInput, NoClass, MitigationDigit, FinalClass, TextLength, TextByte, FrameLength, NoFrontalArea, HeightOrBudget, BudgetSpent, NegativeSpeed, WantedColumn, NoneForColumn}

abbrev pub number_of : Refusal → ℕ
number_of Dimension = 1
number_of Mass = 2
number_of Speed = 3
number_of Area = 4
number_of BufferLength = 5
number_of CellArea = 6
number_of HeadCount = 7
number_of NoMark = 8
number_of ClassInput = 9
number_of NoClass = 10
number_of MitigationDigit = 11
number_of FinalClass = 12
number_of TextLength = 13
number_of TextByte = 14
number_of FrameLength = 15
number_of NoFrontalArea = 16
number_of HeightOrBudget = 17
number_of BudgetSpent = 18
number_of NegativeSpeed = 19
number_of WantedColumn = 20
number_of NoneForColumn = 21

-- the number of an answer, 0 where it is accepted
abbrev pub number_in : {A : Type 0} → Result A Refusal → ℕ
number_in (Ok _) = 0
number_in (Err r) = number_of r

-- an answer in the paper's numbers and values: of an accepted one, and of one refused with a number
abbrev pub answer_as : {A B : Type 0} → (A → B) → (ℕ → B) → Result A Refusal → B
answer_as accepted refused (Ok a) = accepted a
answer_as accepted refused (Err r) = refused (number_of r)
