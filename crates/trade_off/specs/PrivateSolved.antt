-- The sheet's lines solved for the slide, the speed and the mass. Only private functions are stated by it.
use Rattle.std.specs.Prelude.{◌↔◌, ℕ, ◌+◌, ◌-◌, ◌*◌, ◌≤◌, ◌<◌, Option, None, Some}
use Rattle.columns.specs.Bracket.{bracket}
use Rattle.sheet.specs.Ranges.{mass_max, speed_max}
use Rattle.sheet.specs.declared.Formula.{Formula}
use Rattle.sheet.specs.declared.Formula.TheVariants.{Whole, SixTenths, GlideOnly}
use Rattle.sheet.specs.Lines.{full_width, glide_of, run_of, saving_of, total_of, formula_of, area_of}
use Rattle.sheet.specs.PrivateBounds.{slide_max}

-- the high area of a dimension with this high slide
abbrev pub high_area : ℕ → ℕ → ℕ
high_area w slide = (area_of (formula_of w) (full_width w) glide_of (total_of (full_width w) glide_of (bracket 0 slide))).high

-- glide, slide and 785 × a together; a times this is the total that the tenths are taken of
abbrev pub sum : Formula → ℕ → ℕ → ℕ
sum Whole a slide = glide_of.high + slide + 785 * a
sum SixTenths a slide = glide_of.high + slide + 785 * a
sum GlideOnly a slide = glide_of.high + glide_of.high + 785 * a

-- the high slide of a mass at a speed
abbrev pub high_slide : ℕ → ℕ → ℕ
high_slide m v = (run_of v).high - (saving_of m).low

-- up to this slide the high area is within the limit; none where it isn't with any slide
abbrev pub SlideWithin : ℕ → ℕ → Option ℕ → Type 0
SlideWithin w limit None = (slide : ℕ) → limit < high_area w slide
SlideWithin w limit (Some most) = (most ≤ slide_max) × ((slide : ℕ) → slide ≤ slide_max → high_area w slide ≤ limit ↔ slide ≤ most)

-- the whole square root
pub record IsWholeRoot (n root : ℕ) : Type 0 where
  pub at_most : root * root ≤ n
  pub next : n < (root + 1) * (root + 1)

-- up to this speed the slide of a mass is within the greatest
pub record SpeedWithin (most m result : ℕ) : Type 0 where
  pub in_range : result ≤ speed_max
  pub exactly : (v : ℕ) → v ≤ speed_max → high_slide m v ≤ most ↔ v ≤ result

-- up to this mass the slide at a speed is within the greatest
pub record MassWithin (most v result : ℕ) : Type 0 where
  pub in_range : result ≤ mass_max
  pub exactly : (m : ℕ) → 0 < m → m ≤ mass_max → high_slide m v ≤ most ↔ m ≤ result
