-- The exact area goes with the dimension, the glide and the slide.
use Rattle.arithmetic.specs.Fraction.{Fraction, ◌over◌, ◌⊑◌}
use Rattle.sheet.specs.declared.Formula.{Formula}
use Rattle.sheet.specs.declared.Formula.TheVariants.{Whole, SixTenths, GlideOnly}
use Rattle.exact_area.specs.ExactArea.{whole_area, exact_by}
use Rattle.arithmetic.proofs.FractionLaws.{refl_le, plus_mono, times_mono}

whole_mono : (d g s d' g' s' : Fraction) → d ⊑ d' → g ⊑ g' → s ⊑ s' → whole_area d g s ⊑ whole_area d' g' s'
unfolding whole_area
whole_mono d g s d' g' s' hd hg hs =
    plus_mono _ _ _ _
    (times_mono _ _ _ _ (times_mono (2 over 1) d (2 over 1) d' (refl_le (2 over 1)) hd) (plus_mono g s g' s' hg hs))
    (times_mono (314 over 100) _ (314 over 100) _ (refl_le (314 over 100)) (times_mono d d d' d' hd hd))

pub area_mono : (f : Formula) (d g s d' g' s' : Fraction) → d ⊑ d' → g ⊑ g' → s ⊑ s' → exact_by f d g s ⊑ exact_by f d' g' s'
unfolding exact_by
area_mono Whole d g s d' g' s' hd hg hs = whole_mono d g s d' g' s' hd hg hs
area_mono SixTenths d g s d' g' s' hd hg hs =
    times_mono (6 over 10) _ (6 over 10) _ (refl_le (6 over 10)) (whole_mono d g s d' g' s' hd hg hs)
area_mono GlideOnly d g s d' g' s' hd hg hs =
    plus_mono _ _ _ _ (times_mono _ _ _ _ (times_mono (2 over 1) d (2 over 1) d' (refl_le (2 over 1)) hd) hg)
    (times_mono (1 over 2) _ (1 over 2) _ (refl_le (1 over 2))
    (times_mono (314 over 100) _ (314 over 100) _ (refl_le (314 over 100)) (times_mono d d d' d' hd hd)))
