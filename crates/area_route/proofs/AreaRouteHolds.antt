-- The area column is never above the size column, but at the two dimensions that are left out.
use Prim.Native.Nat.{ℕ, ◌+◌, ◌-◌, ◌≤◌, ◌<◌}
use native.Mathlib.Nat.{le_trans, le_refl, lt_of_lt_of_le}
use native.Mathlib.Omega.{arith}
use Rattle.columns.specs.Column.{column_count, limit_at}
use Rattle.columns.specs.SizeColumn.{size_column_of}
use Rattle.columns.proofs.SizeColumnPromiseHolds.{taken_in}
use Rattle.columns.proofs.ExactColumnHolds.{exact_not_above}
use Rattle.sheet.specs.Ranges.{InRange}
use Rattle.sheet.specs.Lines.{whole_from, six_tenths_from}
use Rattle.sheet.specs.Sheet.{lines_of}
use Rattle.sheet.proofs.AcceptanceHolds.{accepted_within}
use Rattle.exact_area.proofs.AccuracyHolds.{sheet_is_accurate}
use Rattle.area_route.specs.AreaRoute.{ColumnsAtMost, NeverAboveSizeColumn}
use Rattle.area_route.proofs.AreaWithin.{area_within}

-- what is at most one column is at most every higher one
pub at_most : {w m v c c' : ℕ} → c ≤ c' → ColumnsAtMost w m v c → ColumnsAtMost w m v c'
at_most h k = record { accepted = k.accepted; column = omega (arith, k.column); exact = omega (arith, k.exact); exact_found = k.exact_found }

-- an aircraft in range whose high area is within the limit of column n + 1
pub columns_at_most : (w m v n : ℕ) → InRange w m v → n < column_count → (lines_of w m v).area.high ≤ limit_at n → ColumnsAtMost w m v (n + 1)
columns_at_most w m v n r l h =
    let k = (accepted_within w m v n l r).1 h in
    let agrees = (sheet_is_accurate w m v).column k.0 in
    record { accepted = k.0; column = omega (arith, k.1); exact = omega (arith, k.1, exact_not_above agrees); exact_found = agrees.exact_in_table.0 }

-- both columns are at most the size column of an aircraft that isn't smaller, where that one is beyond the first dimension of the formula
pub within_size_column : (w w' m v : ℕ) → InRange w m v → 1 ≤ size_column_of w' v → w ≤ w' →
    (six_tenths_from ≤ w → six_tenths_from < w') → (whole_from ≤ w → whole_from < w') → ColumnsAtMost w m v (size_column_of w' v)
within_size_column w w' m v r size hw beyond_1 beyond_8 =
    let n = size_column_of w' v - 1 in
    let pair = taken_in w' v n (omega arith) in
    let high = area_within w m v n r pair.0 (le_trans hw pair.1) pair.2 (λ h. lt_of_lt_of_le (beyond_1 h) pair.1) (λ h. lt_of_lt_of_le (beyond_8 h) pair.1) in
    at_most (omega arith) (columns_at_most w m v n r pair.0 high)

pub never_above_size_column : NeverAboveSizeColumn
never_above_size_column w m v a h =
    within_size_column w w m v a.in_range a.pair_large_enough (le_refl w) (λ k. omega (arith, h.not_1_metre)) (λ k. omega (arith, h.not_8_metres))
