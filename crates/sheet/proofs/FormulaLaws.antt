-- The choice of the area formula, case by case of the dimension; back, that glide only is below the second cut; its denominator.
use mathlib.Core.Path.{◌≡◌, sym, ap, ◌∙◌}
use mathlib.Core.Logic.{⊎_elim}
use Prim.Native.Nat.{ℕ, ◌≤◌, ◌<◌}
use borrow.Author.Tests.{le-leb, lt-leb}
use native.Mathlib.Omega.{arith}
use lib.Dec.{lit<}
use Rattle.arithmetic.proofs.TestLaws.{lt_or_le}
use Rattle.sheet.specs.declared.Formula.{Formula}
use Rattle.sheet.specs.declared.Formula.TheVariants.{Whole, SixTenths, GlideOnly}
use Rattle.sheet.specs.Lines.{whole_from, six_tenths_from, formula_of, area_den, tenths}

module _ (w : ℕ) where
  pub takes_whole : whole_from ≤ w → formula_of w ≡ Whole
  unfolding formula_of
  takes_whole h = simp (le-leb whole_from w h)

  pub takes_six_tenths : w < whole_from → six_tenths_from ≤ w → formula_of w ≡ SixTenths
  unfolding formula_of
  takes_six_tenths h l = simp (lt-leb whole_from w h, le-leb six_tenths_from w l)

  pub takes_glide_only : w < whole_from → w < six_tenths_from → formula_of w ≡ GlideOnly
  unfolding formula_of
  takes_glide_only h l = simp (lt-leb whole_from w h, lt-leb six_tenths_from w l)

pub glide_only_below : (w : ℕ) → formula_of w ≡ GlideOnly → w < six_tenths_from
glide_only_below w e = ⊎_elim (λ l. l) (λ (l : six_tenths_from ≤ w). absurd (with_slide l)) (lt_or_le w six_tenths_from)
  where
    -- the formulas differ in their tenths
    with_slide : six_tenths_from ≤ w → ⊥
    with_slide l =
        ⊎_elim (λ (k : w < whole_from). omega (arith, ap tenths (sym (takes_six_tenths w k l) ∙ e)))
        (λ (k : whole_from ≤ w). omega (arith, ap tenths (sym (takes_whole w k) ∙ e)))
        (lt_or_le w whole_from)

pub denominator_pos : (f : Formula) → 0 < area_den f
denominator_pos Whole = lit< tt
denominator_pos SixTenths = lit< tt
denominator_pos GlideOnly = lit< tt
