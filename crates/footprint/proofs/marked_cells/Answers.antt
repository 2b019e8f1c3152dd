use mathlib.Core.Path.{◌≡◌, refl, sym, ap, ap₂, subst, ◌∙◌}
use mathlib.Core.List.{List}
use Prim.Native.Nat.{ℕ, ◌+◌, ◌-◌, ◌*◌, ◌<◌}
use native.Mathlib.Omega.{arith}
use lib.ListN.{get_or}
use Rattle.std.proofs.Common.{Option, Some, None}
use Rattle.std.specs.Option.{IsSome}
use Rattle.arithmetic.specs.SumsAndMaxima.{max_below}
use Rattle.arithmetic.specs.PrivateFirstMaximum.{first_max_below}
use Rattle.arithmetic.proofs.SumLaws.{first_lt}
use Rattle.map.specs.Size.{map_rows, map_columns, map_cells}
use Rattle.map.specs.TableRow.{table_row, table_row_or_zero, row_unless_zero}
use Rattle.map.proofs.TableRowLaws.{some_row}
use Rattle.footprint.specs.PrivateWalk.{row_key, map_walk}
use Rattle.footprint.specs.declared.walk.MapWalk.{MapWalk}
use Rattle.footprint.specs.declared.walk.MarkedMap.{MarkedMap}
use Rattle.footprint.proofs.WalkLaws as law
use Rattle.footprint.proofs.marked_cells.Goals as goal

-- `marked_cells` meets its contract: the first worst row is a row of the map, and its first worst cell is the map's.

-- the value of an option that is known to have one
abbrev unwrapped : ℕ → Option ℕ → ℕ
unwrapped x (Some y) = y
unwrapped x None = x

-- ---- the walk is that over all rows of a map that isn't refused

module _ (m : MarkedMap) {w : MapWalk} (w_is : w ≡ map_walk m.map.counts.now m.marks.now map_rows) where
  row_in : w.row < map_rows
  row_in = law.row_lt m.map.counts.now m.marks.now w_is

  key_pos : 0 < w.worst
  key_pos = law.worst_pos m.map.counts.now m.marks.now w_is (law.known m).some_cell

  -- the first cell of a row that is lent
  first_of : {counts : List ℕ} {bits column : ℕ} → counts ≡ law.lent m.map.counts.now m.marks.now w.row → bits ≡ get_or m.marks.now w.row 0
      → column ≡ first_max_below (row_key counts bits) map_columns
      → column ≡ first_max_below (row_key (law.lent m.map.counts.now m.marks.now w.row) (get_or m.marks.now w.row 0)) map_columns
  first_of ec eb e = e ∙ ap₂ (λ (counts : List ℕ) (bits : ℕ). first_max_below (row_key counts bits) map_columns) ec eb

  place_in : (counts : List ℕ) (bits : ℕ) {column : ℕ} → column ≡ first_max_below (row_key counts bits) map_columns → map_columns * w.row + column < map_cells
  place_in counts bits e = omega (arith, row_in, e, first_lt (row_key counts bits) map_columns (omega arith))

  -- the walk's largest count is in its range, and so has a table row
  row_is : {row : Option ℕ} → row ≡ row_unless_zero (table_row_or_zero (w.worst - 1) m.map.cell_area) → row ≡ Some (table_row (w.worst - 1) m.map.cell_area)
  row_is e = some_row (w.worst - 1) m.map.cell_area (omega (arith, law.worst_le m.map.counts.now m.marks.now w_is (law.known m).counts_in)) (law.known m).area_in e

-- ---- the goals

pub row-requires : goal.row-requires
row-requires c = row_in c.args.m c.requires

pub first_worst-column-requires : goal.first_worst-column-requires
first_worst-column-requires c =
    let row = c.row.ensures in
    (key_pos c.args.m c.requires, law.worst_is c.args.m.map.counts.now c.args.m.marks.now c.requires ∙ sym (ap₂ (λ (counts : List ℕ) (bits : ℕ). max_below (row_key counts bits) map_columns) row.counts row.bits))

pub overflow_sub-w : goal.overflow_sub-w
overflow_sub-w c = key_pos c.args.m c.requires

pub unwrap-requires : goal.unwrap-requires
unwrap-requires c = let is = row_is c.args.m c.requires c.table_row.ensures in subst IsSome (sym is) refl

pub overflow_mul-result : goal.overflow_mul-result
overflow_mul-result c = omega (arith, row_in c.args.m c.requires)

pub overflow_add-result : goal.overflow_add-result
overflow_add-result c = omega (arith, place_in c.args.m c.requires c.row.result.counts.now c.row.result.bits c.first_worst-column.ensures)

pub overflow_cast-result : goal.overflow_cast-result
overflow_cast-result c = omega (arith, place_in c.args.m c.requires c.row.result.counts.now c.row.result.bits c.first_worst-column.ensures)

pub returns : goal.returns
returns c =
    let m = c.args.m in
    let row = ap (unwrapped c.unwrap.result) (sym c.unwrap.ensures ∙ row_is m c.requires c.table_row.ensures) in
    law.answer m.map.counts.now m.marks.now c.requires (law.known m).some_cell m.map.cell_area row (first_of m c.requires c.row.ensures.counts c.row.ensures.bits c.first_worst-column.ensures)
