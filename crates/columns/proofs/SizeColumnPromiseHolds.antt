-- The laws of specs/SizeColumnPromise.antt hold.
use mathlib.Core.Path.{◌≡◌, refl}
use mathlib.Core.Bool.{Bool, true, false}
use mathlib.Core.Logic.{◌↔◌}
use Prim.Native.Nat.{ℕ, zero, suc, ◌+◌, ◌≤◌, ◌<◌}
use native.Mathlib.Nat.{le_trans}
use native.Mathlib.Omega.{arith}
use lib.Dec.{leb}
use borrow.Author.Tests.{leb-true, le-leb}
use Rattle.arithmetic.proofs.TestLaws.{both}
use Rattle.columns.specs.Column.{column_count}
use Rattle.columns.specs.SizeColumn.{size_pair, size_pairs, size_pair_at, large_enough, size_column_of}
use Rattle.columns.specs.SizeColumnPromise.{size_rank, SizeColumnAtMost, SizeColumnPromise}
use Rattle.columns.proofs.FirstInTable.{PassesOn, first_max, first_none, first_at_most}
use Rattle.columns.proofs.GrowingTable.{entries_grow}

-- both numbers of the pairs grow
dimension_mono : (i k : ℕ) → i ≤ k → k < column_count → (size_pair_at i).dimension ≤ (size_pair_at k).dimension
dimension_mono = entries_grow (λ i. (size_pair_at i).dimension) 4 refl

pub speed_mono : (i k : ℕ) → i ≤ k → k < column_count → (size_pair_at i).speed ≤ (size_pair_at k).speed
speed_mono = entries_grow (λ i. (size_pair_at i).speed) 4 refl

-- a pair is large enough exactly when both of its numbers are
large_to : (w v n : ℕ) → large_enough w v (size_pair_at n) ≡ true → (w ≤ (size_pair_at n).dimension) × (v ≤ (size_pair_at n).speed)
large_to w v n t =
    let h = both (leb w (size_pair_at n).dimension) (leb v (size_pair_at n).speed) t in (leb-true _ _ h.0, leb-true _ _ h.1)

large_from : (w v n : ℕ) → (w ≤ (size_pair_at n).dimension) × (v ≤ (size_pair_at n).speed) → large_enough w v (size_pair_at n) ≡ true
large_from w v n h = simp (le-leb _ _ h.0, le-leb _ _ h.1)

-- after a pair that is large enough all others are
large_on : (w v : ℕ) → PassesOn (size_pair 0 0) (large_enough w v) size_pairs
large_on w v i k h l t =
    let at_i = large_to w v i t in
    large_from w v k (le_trans at_i.0 (dimension_mono i k h l), le_trans at_i.1 (speed_mono i k h l))

at_most : (w v n : ℕ) → n < column_count → SizeColumnAtMost w v n
unfolding size_column_of
at_most w v n l =
    let by_first = first_at_most (size_pair 0 0) (large_enough w v) size_pairs (large_on w v) n l in (
      λ h. large_to w v n (by_first.0 h),
      λ h. by_first.1 (large_from w v n h),
    )

in_table : (w v : ℕ) → size_column_of w v ≤ column_count
unfolding size_column_of
in_table w v = first_max (large_enough w v) size_pairs 0

none : (w v : ℕ) → size_column_of w v ≡ 0 ↔ ((n : ℕ) → n < column_count → large_enough w v (size_pair_at n) ≡ false)
none w v = (to, from)
  where
    to : size_column_of w v ≡ 0 → (n : ℕ) → n < column_count → large_enough w v (size_pair_at n) ≡ false
    to e n l = by_test (large_enough w v (size_pair_at n)) refl
      where
        by_test : (t : Bool) → large_enough w v (size_pair_at n) ≡ t → large_enough w v (size_pair_at n) ≡ false
        by_test true h = absurd (omega (arith, ((at_most w v n l).1 (large_to w v n h)).0))
        by_test false h = h

    from : ((n : ℕ) → n < column_count → large_enough w v (size_pair_at n) ≡ false) → size_column_of w v ≡ 0
    from h = unfold size_column_of in first_none (size_pair 0 0) (large_enough w v) size_pairs 1 h

-- the pair of the size column takes in the aircraft
pub taken_in : (w v n : ℕ) → size_column_of w v ≡ suc n → (n < column_count) × (w ≤ (size_pair_at n).dimension) × (v ≤ (size_pair_at n).speed)
taken_in w v n e =
    let l : n < column_count = omega (arith, in_table w v) in
    let pair = (at_most w v n l).0 (omega arith, omega arith) in (l, pair.0, pair.1)

rank_at_most : (n : ℕ) → n ≤ column_count → size_rank n ≤ column_count + 1
rank_at_most zero h = omega arith
rank_at_most (suc n) h = omega arith

-- the larger aircraft's size column is n
rank_grows : (w w' v v' n : ℕ) → size_column_of w' v' ≡ n → w ≤ w' → v ≤ v' → size_rank (size_column_of w v) ≤ size_rank n
rank_grows w w' v v' zero e hw hv = rank_at_most (size_column_of w v) (in_table w v)
rank_grows w w' v v' (suc n) e hw hv =
    let larger = taken_in w' v' n e in
    let smaller = (at_most w v n larger.0).1 (le_trans hw larger.1, le_trans hv larger.2) in
    rank_of (size_column_of w v) smaller
  where
    rank_of : (m : ℕ) → (1 ≤ m) × (m ≤ n + 1) → size_rank m ≤ suc n
    rank_of zero h = omega arith
    rank_of (suc m) h = omega arith

pub size_column_promise : SizeColumnPromise
size_column_promise =
    record {
      none = none;
      in_table = in_table;
      at_most = at_most;
      grows = λ w w' v v'. rank_grows w w' v v' (size_column_of w' v') refl;
    }
