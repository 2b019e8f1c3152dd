-- What a case asks: an aircraft, a map, a footprint, a controlled-ground mark and a mitigation word.
use Rattle.std.specs.Prelude.{List, ℕ}
use Rattle.sheet.specs.declared.SheetAnswer.{SheetAnswer}
use Rattle.sheet.specs.Sheet.{sheet_of}
use Rattle.exact_area.specs.ExactArea.{exact_column}
use Rattle.map.specs.Map.{Map}
use Rattle.map.specs.GroundMap.{map_of}
use Rattle.footprint.specs.declared.Footprint.{Footprint}
use Rattle.footprint.specs.Footprint.{footprint_of}
use Rattle.assessment.specs.declared.Operation.{Operation}

-- dimension in mm, mass in g, speed in cm/s
pub record Question : Type 0 where
  pub dimension : ℕ
  pub mass : ℕ
  pub speed : ℕ
  pub map : Map
  pub marks : List ℕ
  pub controlled : ℕ
  pub word : ℕ

-- what an operation of the code asks
abbrev pub asked : Operation → Question
asked o =
    record {
      dimension = o.aircraft.dimension;
      mass = o.aircraft.mass;
      speed = o.aircraft.speed;
      map = map_of o.map;
      marks = o.marks.now;
      controlled = o.controlled;
      word = o.word;
    }

-- the sheet, the exact column and the footprint of what is asked
abbrev pub sheet_asked : Question → SheetAnswer
sheet_asked q = sheet_of q.dimension q.mass q.speed

abbrev pub exact_column_asked : Question → ℕ
exact_column_asked q = exact_column q.dimension q.mass q.speed

abbrev pub footprint_asked : Question → Footprint
footprint_asked q = footprint_of q.map q.marks
