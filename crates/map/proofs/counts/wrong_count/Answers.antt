use mathlib.Core.Path.{◌≡◌, refl, sym, ap, ap₂, ◌∙◌}
use mathlib.Core.Bool.{Bool, ◌||◌}
use mathlib.Core.List.{List}
use Prim.Native.Nat.{ℕ, ◌+◌, ◌*◌}
use native.Mathlib.Omega.{arith}
use lib.Dec.{ltb}
use Rattle.arithmetic.specs.Lists.{part}
use Rattle.arithmetic.specs.Conditions.{any_below}
use Rattle.arithmetic.proofs.TestLaws.{any_same, any_add}
use Rattle.arithmetic.proofs.PartLaws.{slice_at}
use Rattle.map.specs.Size.{map_columns, map_cells}
use Rattle.map.specs.Map.{largest_count}
use Rattle.map.specs.Refusals.{above_range}
use Rattle.map.specs.PrivateCounts.{wrong_row}
use Rattle.map.proofs.RowLaws.{rows_length, row_is_part}
use Rattle.map.proofs.counts.wrong_count.Goals as goal

-- one map row more, lent as a part of the counts
row_next : (counts : List ℕ) (r : ℕ) → (any_below (above_range counts) (map_columns * r) || wrong_row (part counts (map_columns * r) (map_columns * r + map_columns))) ≡ any_below (above_range counts) (map_columns * (r + 1))
row_next counts r =
    let from = map_columns * r in
    let next : from + map_columns ≡ map_columns * (r + 1) = omega arith in
    let row = any_same (above_range (part counts from (from + map_columns))) (λ i. above_range counts (from + i)) map_columns (λ i l. ap (ltb largest_count) (slice_at counts from map_columns i l)) in
    ap (λ (x : Bool). any_below (above_range counts) from || x) row
    ∙ sym (any_add (above_range counts) from map_columns)
    ∙ ap (any_below (above_range counts)) next

pub loop-row-init : goal.loop-row-init
unfolding any_below
loop-row-init c = refl

pub loop-row-preserved : goal.loop-row-preserved
loop-row-preserved c =
    let counts = c.args.counts.now in
    let r = c.loop-row.row-index in
    let rows = rows_length counts c.told-counts c.as_chunks.ensures.front in
    let row = row_is_part counts c.told-counts c.as_chunks.ensures.front r (omega (arith, c.loop-row-test.true, rows)) in
    ap₂ (λ (x y : Bool). x || y) c.loop-row.invariant (c.wrong_row-any.ensures ∙ ap wrong_row row) ∙ row_next counts r

pub returns : goal.returns
returns c =
    let counts = c.args.counts.now in
    let past : map_columns * c.loop-row.row-index ≡ map_cells = omega (arith, rows_length counts c.told-counts c.as_chunks.ensures.front) in
    c.loop-row.invariant ∙ ap (any_below (above_range counts)) past
