-- More speed or more mass never lowers an area, nor does more dimension in one formula; from one to another it can.
use mathlib.Core.Path.{refl}
use Prim.Native.Nat.{ℕ, ◌≤◌, ◌<◌}
use native.Mathlib.Nat.{mul-le-mul, mul-le-mul_left, mul-le-mul_right, add-le-add, le_refl}
use native.Mathlib.Omega.{arith}
use lib.Dec.{lit<}
use Rattle.arithmetic.specs.Rounding.{div_up}
use Rattle.arithmetic.proofs.RoundingLaws.{down_mono, up_mono, down_anti, up_anti}
use Rattle.sheet.specs.declared.Formula.{Formula}
use Rattle.sheet.specs.declared.Formula.TheVariants.{Whole, SixTenths, GlideOnly}
use Rattle.sheet.specs.Lines.{full_width, glide_of, formula_of, run_rate, run_scale, run_of, saving_times_mass, saving_of, total_at, total_of, area_num, area_den, area_of}
use Rattle.sheet.specs.Sheet.{with_lines, lines_with_size_column}
use Rattle.sheet.specs.Growth.{AreaGrowsWithMassAndSpeed, AreaGrowsInOneFormula, AreaDoesNotAlwaysGrow}
use Rattle.sheet.proofs.FormulaLaws.{denominator_pos}

run_grows : (v v' : ℕ) → v ≤ v' → ((run_of v).low ≤ (run_of v').low) × ((run_of v).high ≤ (run_of v').high)
unfolding run_of
run_grows v v' h = (
  down_mono _ _ run_scale (lit< tt) (mul-le-mul_right run_rate.low (mul-le-mul h h)),
  up_mono _ _ run_scale (lit< tt) (mul-le-mul_right run_rate.high (mul-le-mul h h)),
)

saving_falls : (m m' : ℕ) → 0 < m → m ≤ m' → ((saving_of m').low ≤ (saving_of m).low) × ((saving_of m').high ≤ (saving_of m).high)
unfolding saving_of
saving_falls m m' p h = (down_anti saving_times_mass.low m m' p h, up_anti saving_times_mass.high m m' p h)

total_grows : (a a' g s s' : ℕ) → a ≤ a' → s ≤ s' → total_at a g s ≤ total_at a' g s'
total_grows a a' g s s' ha hs =
    omega (arith, mul-le-mul ha (add-le-add (le_refl g) hs), mul-le-mul ha ha)

-- the numerator of line 6 goes with a and the slide, in one formula
pub numerator_grows : (f : Formula) (a a' g s s' : ℕ) → a ≤ a' → s ≤ s' →
    area_num f a g (total_at a g s) ≤ area_num f a' g (total_at a' g s')
numerator_grows Whole a a' g s s' ha hs = total_grows a a' g s s' ha hs
numerator_grows SixTenths a a' g s s' ha hs = mul-le-mul_left 3 (total_grows a a' g s s' ha hs)
numerator_grows GlideOnly a a' g s s' ha hs = omega (arith, mul-le-mul_right g ha, mul-le-mul ha ha)

pub area_grows_in_one_formula : AreaGrowsInOneFormula
unfolding lines_with_size_column with_lines area_of total_of
area_grows_in_one_formula w w' m m' v v' e hw p hm hv =
    let run = run_grows v v' hv
    in let saving = saving_falls m m' (omega arith) hm
    in let f = formula_of w'
    in record {
      low = rw e (down_mono _ _ (area_den f) (denominator_pos f) (numerator_grows f (full_width w) (full_width w') glide_of.low _ _ (omega arith) (omega arith)));
      high = rw e (up_mono _ _ (area_den f) (denominator_pos f) (numerator_grows f (full_width w) (full_width w') glide_of.high _ _ (omega arith) (omega arith)));
    }

pub area_grows : AreaGrowsWithMassAndSpeed
area_grows w m m' v v' = area_grows_in_one_formula w w m m' v v' refl (le_refl w)

pub area_does_not_always_grow : AreaDoesNotAlwaysGrow
unfolding lines_with_size_column with_lines area_of formula_of total_of saving_of run_of div_up
area_does_not_always_grow = lit< tt
