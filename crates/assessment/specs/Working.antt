-- A working of demand 3: "Each working takes the footprint's row, then the class table, then the mitigation word, with its own column at both."
use Rattle.std.specs.Prelude.{cond, ℕ, eqb, ℤ}
use Rattle.footprint.specs.declared.Footprint.{Footprint}
use Rattle.risk_class.specs.ClassTable.{intrinsic_class_of}
use Rattle.risk_class.specs.Mitigation.{final_class_of}
use Rattle.assessment.specs.Question.{Question, footprint_asked}

-- a class that is given, or not
pub data Given (A : Type 0) : Type 0 where
  given : A → Given A
  not_given : Given A

pub record Working : Type 0 where
  pub refusal : ℕ
  pub intrinsic : Given ℕ
  pub final : Given ℤ

-- "The first refusal ends a working: a class given before it counts as given, a later one isn't given."
abbrev pub ended_before : ℕ → Working
ended_before refusal = record { refusal = refusal; intrinsic = not_given; final = not_given }

abbrev pub ended_after : ℕ → ℕ → Working
ended_after class refusal = record { refusal = refusal; intrinsic = given class; final = not_given }

abbrev pub whole_working : ℕ → ℤ → Working
whole_working class last = record { refusal = 0; intrinsic = given class; final = given last }

-- "the mitigation word [gives] the final one"
unfoldable pub after_class : ℕ → ℕ → ℕ → Working
after_class column class word =
    let answer = final_class_of column class word
    in cond (eqb answer.refusal 0) (whole_working class answer.class) (ended_after class answer.refusal)

-- "The class table gives the intrinsic class"
unfoldable pub after_footprint : ℕ → ℕ → ℕ → ℕ → Working
after_footprint column row controlled word =
    let answer = intrinsic_class_of column row controlled
    in cond (eqb answer.refusal 0) (after_class column answer.class word) (ended_before answer.refusal)

unfoldable pub working_on : ℕ → Footprint → ℕ → ℕ → Working
working_on column footprint controlled word =
    cond (eqb footprint.refusal 0) (after_footprint column footprint.row controlled word)
    (ended_before footprint.refusal)

-- the working at a column over the map, footprint, controlled-ground mark and mitigation word of a question, whatever its aircraft
abbrev pub working_at : ℕ → Question → Working
working_at column q = working_on column (footprint_asked q) q.controlled q.word
