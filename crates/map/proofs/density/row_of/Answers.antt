use mathlib.Core.Path.{◌≡◌, refl, sym, ap, ◌∙◌}
use mathlib.Core.Bool.{Bool, true, false, not, cond}
use mathlib.Core.List.{[], ◌∷◌}
use Prim.Native.Nat.{ℕ, ◌+◌}
use Rattle.std.proofs.Common.{Option, Some, None, nat_lt}
use Rattle.std.specs.List.{position}
use Rattle.map.specs.TableRow.{below_density, table_row}
use Rattle.map.proofs.density.row_of.Goals as goal

-- `map::density::row_of` meets its contract: the first of the five densities tells the row.

row_from : Option ℕ → ℕ
row_from (Some i) = 2 + i
row_from None = 7

-- how many of five tests fail before the first that passes
failed : Bool → Bool → Bool → Bool → Bool → ℕ
failed a b c d e = cond (not a) (1 + cond (not b) (1 + cond (not c) (1 + cond (not d) (1 + cond (not e) (1 + 0) 0) 0) 0) 0) 0

by_tests : (a b c d e : Bool) → row_from (cond (nat_lt (failed a b c d e) 5) (Some (failed a b c d e)) None) ≡ cond a 2 (cond b 3 (cond c 4 (cond d 5 (cond e 6 7))))
unfolding row_from failed
by_tests true b c d e = refl
by_tests false true c d e = refl
by_tests false false true d e = refl
by_tests false false false true e = refl
by_tests false false false false true = refl
by_tests false false false false false = refl

first_tells : (people area : ℕ) {o : Option ℕ} → o ≡ position (below_density people area) (5 ∷ 50 ∷ 500 ∷ 5000 ∷ 50000 ∷ []) → row_from o ≡ table_row people area
unfolding table_row failed
first_tells people area e =
    ap row_from e ∙ by_tests (below_density people area 5) (below_density people area 50) (below_density people area 500) (below_density people area 5000) (below_density people area 50000)

pub returns-in-Some : goal.returns-in-Some
unfolding row_from
returns-in-Some c = first_tells c.args.people c.args.area (sym c.in-Some.is ∙ c.first_above.ensures)

pub returns-in-None : goal.returns-in-None
unfolding row_from
returns-in-None c = first_tells c.args.people c.args.area (sym c.in-None.is ∙ c.first_above.ensures)
