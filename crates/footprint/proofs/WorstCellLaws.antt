-- Laws of the worst cell: cells are in the order of their keys; where a cell is marked, the worst one is, has the most people and the highest row.
use mathlib.Core.Path.{◌≡◌, refl, sym, ap, ◌∙◌}
use mathlib.Core.Bool.{true, false}
use mathlib.Core.List.{List}
use Prim.Native.Nat.{ℕ, zero, suc, ◌+◌, ◌*◌, ◌≤◌, ◌<◌}
use native.Mathlib.Nat.{one-mul}
use native.Mathlib.Omega.{arith}
use borrow.Author.Tests.{lt-ltb, le-ltb, eq-eqb, ltb-true, ltb-false}
use lib.Dec.{ltb}
use Rattle.arithmetic.specs.SumsAndMaxima.{max_below}
use Rattle.arithmetic.specs.PrivateFirstMaximum.{first_max_below}
use Rattle.arithmetic.proofs.SumLaws.{le_max, first_before}
use Rattle.arithmetic.proofs.BestLaws.{best_lt, best_is_first, first_value}
use Rattle.map.specs.Size.{map_cells}
use Rattle.map.specs.Map.{Map, count_at, mark_at, cells_in}
use Rattle.map.specs.TableRow.{row_at}
use Rattle.footprint.specs.Footprint.{highest_row, more_people, worse, worst_place}
use Rattle.footprint.specs.PrivateWalk.{key_at}
use Rattle.map.proofs.MarkLaws.{mark_lt}
use Rattle.map.proofs.TableRowLaws.{row_mono}
use Rattle.footprint.proofs.CellLaws.{max_of_marked, no_key, by_keys}

-- where a cell is marked, the keys aren't all 0
pub some_key : (counts marks : List ℕ) → 0 < cells_in marks → 0 < max_below (key_at counts marks) map_cells
some_key counts marks some = by_cases (max_below (key_at counts marks) map_cells) refl
  where
    by_cases : (n : ℕ) → max_below (key_at counts marks) map_cells ≡ n → 0 < max_below (key_at counts marks) map_cells
    by_cases zero e = let wrong : ⊥ = omega (arith, no_key (mark_at marks) (count_at counts) map_cells e) in absurd wrong
    by_cases (suc n) e = omega arith

module _ (map : Map) (marks : List ℕ) where
  abbrev key : ℕ → ℕ
  key = key_at map.counts marks

  abbrev worst : ℕ
  worst = worst_place map marks

  -- ---- the order of cells

  -- a cell is worse exactly where its key is larger
  worse_by_key : (q p : ℕ) → worse map marks q p ≡ ltb (key p) (key q)
  worse_by_key q p = by_keys (mark_at marks q) (mark_at marks p) (count_at map.counts q) (count_at map.counts p) (mark_lt marks q) (mark_lt marks p)

  -- of two marked cells, the worse one has more people
  both_marked : (q p : ℕ) → mark_at marks q ≡ 1 → mark_at marks p ≡ 1 → worse map marks q p ≡ more_people map q p
  both_marked q p hq hp = simp (eq-eqb (mark_at marks q) 1 hq, eq-eqb (mark_at marks p) 1 hp)

  -- ---- the worst cell

  pub place_is : worst ≡ first_max_below key map_cells
  place_is = best_is_first (worse map marks) key map_cells (λ q p hq hp. worse_by_key q p)

  pub worst_lt : worst < map_cells
  worst_lt = best_lt (worse map marks) map_cells (omega arith)

  worst_key : key worst ≡ max_below key map_cells
  worst_key = ap key place_is ∙ first_value key map_cells (omega arith)

  none_worse : (p : ℕ) → p < map_cells → worse map marks p worst ≡ false
  none_worse p l = worse_by_key p worst ∙ le-ltb (key worst) (key p) (omega (arith, worst_key, le_max key map_cells p l))

  worse_than_before : (p : ℕ) → p < worst → worse map marks worst p ≡ true
  worse_than_before p l =
      worse_by_key worst p ∙ lt-ltb (key p) (key worst) (omega (arith, worst_key, first_before key map_cells p (omega (arith, place_is))))

  module _ (some : 0 < cells_in marks) where
    pub worst_marked : mark_at marks worst ≡ 1
    worst_marked = is_one (mark_at marks worst) (count_at map.counts worst) (mark_lt marks worst) (omega (arith, worst_key, some_key map.counts marks some))
      where
        is_one : (m x : ℕ) → m < 2 → 0 < m * (x + 1) → m ≡ 1
        is_one zero x h l = let wrong : ⊥ = omega arith in absurd wrong
        is_one (suc m) x h l = omega arith

    -- "the largest count"
    pub none_more : (p : ℕ) → p < map_cells → mark_at marks p ≡ 1 → count_at map.counts p ≤ count_at map.counts worst
    none_more p l e = ltb-false (count_at map.counts worst) (count_at map.counts p) (sym (both_marked p worst e worst_marked) ∙ none_worse p l)

    -- "the first marked cell" with it
    pub more_than_before : (p : ℕ) → p < worst → mark_at marks p ≡ 1 → count_at map.counts p < count_at map.counts worst
    more_than_before p l e = ltb-true (count_at map.counts p) (count_at map.counts worst) (sym (both_marked worst p worst_marked e) ∙ worse_than_before p l)

    -- since the table row keeps the order of the counts
    pub highest_is : highest_row map marks ≡ row_at map worst
    highest_is =
        max_of_marked (mark_at marks) (row_at map) (mark_lt marks) map_cells worst_lt worst_marked
        (λ p l e. row_mono map.cell_area (count_at map.counts p) (count_at map.counts worst) (none_more p l e))

    pub worst_count : max_below key map_cells ≡ count_at map.counts worst + 1
    worst_count = sym worst_key ∙ ap (λ (m : ℕ). m * (count_at map.counts worst + 1)) worst_marked ∙ one-mul (count_at map.counts worst + 1)
