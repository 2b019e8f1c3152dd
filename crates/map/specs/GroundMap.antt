-- What a lent map stands for.
use Rattle.map.specs.Map.{Map}
use Rattle.map.specs.declared.GroundMap.{GroundMap}

-- its counts and its cell area
abbrev pub map_of : GroundMap → Map
map_of m = record { counts = m.counts.now; cell_area = m.cell_area }
