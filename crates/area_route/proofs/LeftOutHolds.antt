-- What holds at the two dimensions that are left out.
use mathlib.Core.Path.{◌≡◌, refl}
use mathlib.Core.Bool.{Bool, true, ◌||◌}
use Prim.Native.Nat.{ℕ, min, ◌+◌, ◌-◌, ◌≤◌, ◌<◌}
use native.Mathlib.Nat.{le_trans}
use native.Mathlib.Omega.{arith}
use lib.Dec.{ltb, leb}
use borrow.Author.Tests.{ltb-true, lt-leb, le-ltb}
use Rattle.arithmetic.proofs.TestLaws.{all_below, all_below_lem}
use Rattle.columns.specs.Column.{column_count}
use Rattle.columns.specs.SizeColumn.{size_pair_at, size_column_of}
use Rattle.columns.proofs.SizeColumnPromiseHolds.{speed_mono, taken_in, size_column_promise}
use Rattle.sheet.specs.Ranges.{InRange}
use Rattle.area_route.specs.AreaRoute.{HasSizeColumn, ColumnsAtMost}
use Rattle.area_route.specs.LeftOut.{OneMillimetreLarger, AtLeftOut, BothLeftOut}
use Rattle.area_route.proofs.AreaRouteHolds.{at_most, within_size_column}

pub one_millimetre_larger : OneMillimetreLarger
one_millimetre_larger w m v r size = within_size_column w _ m v r size (omega arith) (λ h. omega arith) (λ h. omega arith)

-- the columns are at most the column of a pair that takes in one millimetre more
by_pair : (w m v k c : ℕ) → InRange w m v → k < column_count → w < (size_pair_at k).dimension → v ≤ (size_pair_at k).speed → k + 1 ≤ c → ColumnsAtMost w m v c
by_pair w m v k c r l hw hv hc =
    let size = (size_column_promise.at_most (w + 1) v k l).1 (omega arith, hv) in
    at_most (omega (arith, size.1)) (one_millimetre_larger w m v r size.0)

-- the pair after pair n, or the last
abbrev next : ℕ → ℕ
next n = min (n + 1) 4

-- each pair that takes in more than the speed takes in one millimetre more
abbrev faster_takes : ℕ → ℕ → ℕ → Bool
faster_takes w speed n = leb (size_pair_at n).speed speed || ltb w (size_pair_at n).dimension

-- after each pair that takes in the dimension, the next takes in one millimetre more
abbrev next_takes : ℕ → ℕ → Bool
next_takes w n = ltb (size_pair_at n).dimension w || ltb w (size_pair_at (next n)).dimension

module _ (w speed m v : ℕ) (a : HasSizeColumn w m v) where
  abbrev n : ℕ
  n = size_column_of w v - 1

  pair : (n < column_count) × (w ≤ (size_pair_at n).dimension) × (v ≤ (size_pair_at n).speed)
  pair = taken_in w v n (omega (arith, a.pair_large_enough))

  faster : all_below (faster_takes w speed) 5 ≡ true → speed < v → ColumnsAtMost w m v (size_column_of w v)
  faster test h =
      let t = rw (lt-leb (size_pair_at n).speed speed (omega (arith, pair.2))) at (all_below_lem (faster_takes w speed) 5 test n pair.0) in
      by_pair w m v n (size_column_of w v) a.in_range pair.0 (ltb-true _ _ t) pair.2 (omega (arith, a.pair_large_enough))

  one_above : all_below (next_takes w) 5 ≡ true → (c : ℕ) → size_column_of w v + 1 ≤ c → ColumnsAtMost w m v c
  one_above test c h =
      let t = rw (le-ltb (size_pair_at n).dimension w pair.1) at (all_below_lem (next_takes w) 5 test n pair.0) in
      let inside : next n < column_count = omega (arith, pair.0) in
      by_pair w m v (next n) c a.in_range inside (ltb-true _ _ t) (le_trans pair.2 (speed_mono n (next n) (omega (arith, pair.0)) inside)) (omega (arith, a.pair_large_enough))

at_left_out : (w speed : ℕ) → all_below (faster_takes w speed) 5 ≡ true → all_below (next_takes w) 5 ≡ true → AtLeftOut w speed
at_left_out w speed faster_test next_test =
    record { faster = λ m v a. faster w speed m v a faster_test; one_above = λ m v a. one_above w speed m v a next_test _ (omega arith) }

pub both_left_out : BothLeftOut
both_left_out = record { at_1_metre = at_left_out _ _ refl refl; at_8_metres = at_left_out _ _ refl refl }
