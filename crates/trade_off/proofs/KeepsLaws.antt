-- When an aircraft keeps to a column: by its high area, and by its high slide.
use mathlib.Core.Path.{◌≡◌, refl}
use mathlib.Core.Logic.{◌↔◌}
use mathlib.Core.Bool.{true, false}
use Prim.Native.Nat.{ℕ, ◌-◌, ◌≤◌}
use native.Mathlib.Nat.{le_trans}
use native.Mathlib.Omega.{arith}
use lib.Dec.{eqb, leb}
use borrow.Author.Tests.{eqb-true, eq-eqb, leb-true, le-leb}
use Rattle.arithmetic.proofs.TestLaws.{both, inside}
use Rattle.columns.specs.Column.{column_count, limit_at, not_a_column}
use Rattle.columns.proofs.LimitLaws.{limit_mono}
use Rattle.sheet.specs.Ranges.{mass_min, mass_max, speed_max, InRange}
use Rattle.sheet.specs.declared.Formula.TheVariants.{GlideOnly}
use Rattle.sheet.specs.Lines.{formula_of, total_of, area_of}
use Rattle.sheet.specs.Sheet.{lines_of, with_lines, lines_with_size_column, sheet_of}
use Rattle.sheet.proofs.LineBounds.{glide_only_area}
use Rattle.sheet.proofs.AcceptanceHolds.{refused_exactly_when, accepted_within}
use Rattle.sheet.proofs.GrowthHolds.{area_grows}
use Rattle.trade_off.specs.TradeOff.{keeps_to}
use Rattle.trade_off.specs.PrivateSolved.{high_area, high_slide}

-- a column has a place in the table of limits
pub column_place : (c : ℕ) → not_a_column c ≡ false → (1 ≤ c) × (c ≤ column_count)
column_place c h = inside 1 column_count c h

-- another speed, another mass
pub at_speed : {w m v v' : ℕ} → InRange w m v → v' ≤ speed_max → InRange w m v'
at_speed r h =
    record { dimension_least = r.dimension_least; dimension_most = r.dimension_most; mass_least = r.mass_least; mass_most = r.mass_most; speed_most = h }

pub at_mass : {w m m' v : ℕ} → InRange w m v → mass_min ≤ m' → m' ≤ mass_max → InRange w m' v
at_mass r h l =
    record { dimension_least = r.dimension_least; dimension_most = r.dimension_most; mass_least = h; mass_most = l; speed_most = r.speed_most }

module _ (w m v : ℕ) where
  area_is : (lines_of w m v).area.high ≡ high_area w (high_slide m v)
  unfolding lines_with_size_column with_lines area_of total_of
  area_is = refl

  module _ (c : ℕ) where
    pub keeps_accepted : keeps_to w m v c ≡ true → ((sheet_of w m v).refusal ≡ 0) × ((sheet_of w m v).sheet.column ≤ c)
    keeps_accepted h =
        let k = both (eqb (sheet_of w m v).refusal 0) (leb (sheet_of w m v).sheet.column c) h in (eqb-true _ _ k.0, leb-true _ _ k.1)

    pub accepted_keeps : (sheet_of w m v).refusal ≡ 0 → (sheet_of w m v).sheet.column ≤ c → keeps_to w m v c ≡ true
    accepted_keeps h l = simp (eq-eqb _ _ h, le-leb _ _ l)

    pub keeps_in_range : keeps_to w m v c ≡ true → InRange w m v
    keeps_in_range h = ((refused_exactly_when w m v).none.0 (keeps_accepted h).0).0

    -- an aircraft in range keeps to a column just where its high area is within the column's limit
    pub keeps_by_area : InRange w m v → not_a_column c ≡ false → keeps_to w m v c ≡ true ↔ (lines_of w m v).area.high ≤ limit_at (c - 1)
    keeps_by_area r n =
        let place = column_place c n in
        let within = accepted_within w m v (c - 1) (omega (arith, place)) r in (
          λ h. let k = keeps_accepted h in within.0 (k.0, omega (arith, place, k.1)),
          λ h. let k = within.1 h in accepted_keeps k.0 (omega (arith, place, k.1)),
        )

    pub keeps_exactly : InRange w m v → not_a_column c ≡ false → keeps_to w m v c ≡ true ↔ high_area w (high_slide m v) ≤ limit_at (c - 1)
    keeps_exactly r n = rw (← area_is) (keeps_by_area r n)

-- a lighter and slower aircraft keeps to the column that another keeps to
pub keeps_lighter_and_slower : (w m m' v v' c : ℕ) → not_a_column c ≡ false → mass_min ≤ m → m ≤ m' → v ≤ v' → keeps_to w m' v' c ≡ true → keeps_to w m v c ≡ true
keeps_lighter_and_slower w m m' v v' c n least h l k =
    let r' = keeps_in_range w m' v' c k in
    let r = at_mass (at_speed r' (omega (arith, l, r'.speed_most))) least (omega (arith, h, r'.mass_most)) in
    (keeps_by_area w m v c r n).1 (le_trans (area_grows w m m' v v' least h l).high ((keeps_by_area w m' v' c r' n).0 k))

-- and what keeps to a column keeps to a higher one
pub keeps_higher_column : (w m v c c' : ℕ) → c ≤ c' → keeps_to w m v c ≡ true → keeps_to w m v c' ≡ true
keeps_higher_column w m v c c' h k =
    let a = keeps_accepted w m v c k in accepted_keeps w m v c' a.0 (le_trans a.1 h)

-- ---- where the area has no slide

pub keeps_without_slide : (w m v c : ℕ) → InRange w m v → not_a_column c ≡ false → formula_of w ≡ GlideOnly → keeps_to w m v c ≡ true
keeps_without_slide w m v c r n e =
    let place = column_place c n in
    (keeps_by_area w m v c r n).1 (le_trans (glide_only_area w m v e) (limit_mono 0 (c - 1) (omega arith) (omega (arith, place))))
