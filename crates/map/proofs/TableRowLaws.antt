-- Laws of the table row: it keeps the order of the counts, and is 2 to 7.
use mathlib.Core.Path.{◌≡◌, ◌∙◌}
use mathlib.Core.Logic.{⊎_elim}
use mathlib.Core.Bool.{false, cond}
use Prim.Native.Nat.{ℕ, ◌*◌, ◌≤◌, ◌<◌}
use native.Mathlib.Nat.{le_refl, le_trans}
use native.Mathlib.Omega.{arith}
use borrow.Author.Tests.{lt-ltb, le-ltb, ne_eqb}
use lib.Dec.{lit≤}
use Rattle.std.proofs.Common.{Option, Some}
use Rattle.arithmetic.proofs.TestLaws.{lt_or_le, cond_le, le_cond}
use Rattle.map.specs.Map.{largest_count, wrong_area}
use Rattle.map.specs.TableRow.{square_kilometre, below_density, table_row, table_row_or_zero, row_unless_zero}

module _ (area : ℕ) where
  -- at one density: where y is below it, so is x
  step : (x y density v : ℕ) {rx ry : ℕ} → x ≤ y → v ≤ ry → rx ≤ ry
      → cond (below_density x area density) v rx ≤ cond (below_density y area density) v ry
  step x y density v {rx} {ry} l hv h =
      ⊎_elim
      (λ (k : y * square_kilometre < density * area).
      simp (lt-ltb (y * square_kilometre) (density * area) k, lt-ltb (x * square_kilometre) (density * area) (omega arith)) (le_refl v))
      (λ (k : density * area ≤ y * square_kilometre).
      simp (le-ltb (y * square_kilometre) (density * area) k) (cond_le (below_density x area density) hv h))
      (lt_or_le (y * square_kilometre) (density * area))

  -- a larger count has the same row or a higher one
  pub row_mono : (x y : ℕ) → x ≤ y → table_row x area ≤ table_row y area
  unfolding table_row
  row_mono x y l =
      let q6 : ℕ = cond (below_density y area 50000) 6 7 in
      let q5 : ℕ = cond (below_density y area 5000) 5 q6 in
      let q4 : ℕ = cond (below_density y area 500) 4 q5 in
      let q3 : ℕ = cond (below_density y area 50) 3 q4 in
      let r6 : 5 ≤ q6 = le_cond (below_density y area 50000) (lit≤ tt) (lit≤ tt) in
      let r5 : 4 ≤ q5 = le_cond (below_density y area 5000) (lit≤ tt) (le_trans (lit≤ tt) r6) in
      let r4 : 3 ≤ q4 = le_cond (below_density y area 500) (lit≤ tt) (le_trans (lit≤ tt) r5) in
      let r3 : 2 ≤ q3 = le_cond (below_density y area 50) (lit≤ tt) (le_trans (lit≤ tt) r4) in
      step x y 5 2 l r3
      (step x y 50 3 l r4 (step x y 500 4 l r5 (step x y 5000 5 l r6 (step x y 50000 6 l (lit≤ tt) (le_refl 7)))))

  pub row_ge : (x : ℕ) → 2 ≤ table_row x area
  unfolding table_row
  row_ge x =
      le_cond (below_density x area 5) (lit≤ tt)
      (le_cond (below_density x area 50) (lit≤ tt)
      (le_cond (below_density x area 500) (lit≤ tt) (le_cond (below_density x area 5000) (lit≤ tt) (le_cond (below_density x area 50000) (lit≤ tt) (lit≤ tt)))))

  pub row_le : (x : ℕ) → table_row x area ≤ 7
  unfolding table_row
  row_le x =
      cond_le (below_density x area 5) (lit≤ tt)
      (cond_le (below_density x area 50) (lit≤ tt)
      (cond_le (below_density x area 500) (lit≤ tt) (cond_le (below_density x area 5000) (lit≤ tt) (cond_le (below_density x area 50000) (lit≤ tt) (le_refl 7)))))

-- of numbers in their ranges
pub row_in_range : (people area : ℕ) → people ≤ largest_count → wrong_area area ≡ false → table_row_or_zero people area ≡ table_row people area
unfolding table_row_or_zero
row_in_range people area h e = simp (le-ltb largest_count people h, e)

pub some_row : (people area : ℕ) {row : Option ℕ} → people ≤ largest_count → wrong_area area ≡ false → row ≡ row_unless_zero (table_row_or_zero people area)
    → row ≡ Some (table_row people area)
some_row people area h e r =
    let some = ne_eqb (table_row people area) 0 (λ z. omega (arith, row_ge area people)) in r ∙ simp (row_in_range people area h e, some)
