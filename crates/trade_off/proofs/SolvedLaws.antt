-- The sheet's lines solved for the slide, the speed and the mass.
use mathlib.Core.Path.{◌≡◌, refl, sym, ap, ◌∙◌}
use mathlib.Core.Logic.{◌↔◌, ⊎_elim}
use Rattle.std.proofs.Common.{Some, None}
use Prim.Native.Nat.{ℕ, ◌+◌, ◌-◌, ◌*◌, ◌/◌, ◌≤◌, ◌<◌, min, max}
use native.Mathlib.Nat.{le_refl, le_trans, mul-le-mul_right, mul-le-mul, le-div_iff_mul-le, mul-pos}
use native.Mathlib.Omega.{arith}
use lib.Dec.{lit<, lit≤}
use Rattle.arithmetic.specs.Rounding.{div_up}
use Rattle.arithmetic.proofs.RoundingLaws.{up_high, up_le, le_down, down_mono}
use Rattle.arithmetic.proofs.TestLaws.{lt_or_le}
use Rattle.columns.specs.Bracket.{bracket}
use Rattle.columns.specs.declared.Bracket.{Bracket}
use Rattle.sheet.specs.declared.Formula.{Formula}
use Rattle.sheet.specs.declared.Formula.TheVariants.{Whole, SixTenths, GlideOnly}
use Rattle.sheet.specs.Lines.{full_width, glide_of, run_rate, run_scale, run_of, saving_times_mass, saving_of, total_of, formula_of, area_of, tenths}
use Rattle.sheet.specs.PrivateBounds.{slide_max}
use Rattle.sheet.specs.PrivateAreaTenths.{total_taken}
use Rattle.sheet.specs.Ranges.{mass_max, speed_max}
use Rattle.sheet.proofs.LineBounds.{run_max}
use Rattle.sheet.proofs.AreaTenthsLaws.{area_in_tenths}
use Rattle.trade_off.specs.PrivateSolved.{sum, high_area, high_slide, SlideWithin, SpeedWithin, MassWithin}

-- rounded up within a bound
up_within : (a b x : ℕ) → 0 < b → div_up a b ≤ x ↔ a ≤ x * b
up_within a b x pos = (λ h. le_trans (up_high a b pos) (mul-le-mul_right b h), λ h. up_le x a b pos h)

-- and a number within a quotient
down_within : (a b x : ℕ) → 0 < b → x ≤ a / b ↔ x * b ≤ a
down_within a b x pos = (λ h. (le-div_iff_mul-le pos).0 h, λ h. le_down x a b pos h)

-- ---- line 6 for the slide

abbrev scale : ℕ
scale = 1000000

taken_is : (f : Formula) (a slide : ℕ) → (total_taken f a glide_of (total_of a glide_of (bracket 0 slide))).high ≡ sum f a slide * a
unfolding total_of
taken_is Whole a slide = omega arith
taken_is SixTenths a slide = omega arith
taken_is GlideOnly a slide = omega arith

tenths_pos : (f : Formula) → 0 < tenths f
tenths_pos Whole = lit< tt
tenths_pos SixTenths = lit< tt
tenths_pos GlideOnly = lit< tt

area_high : (f : Formula) (a slide : ℕ) → div_up (tenths f * (sum f a slide * a)) scale ≡ (area_of f a glide_of (total_of a glide_of (bracket 0 slide))).high
area_high f a slide =
    ap (λ n. div_up (tenths f * n) scale) (sym (taken_is f a slide))
    ∙ ap (λ (b : Bracket). b.high) (area_in_tenths f a glide_of (total_of a glide_of (bracket 0 slide)))

-- the greatest sum with which the area is within a limit
sum_within : (f : Formula) (a slide limit : ℕ) → 0 < a
    → (area_of f a glide_of (total_of a glide_of (bracket 0 slide))).high ≤ limit ↔ sum f a slide ≤ limit * scale / (tenths f * a)
sum_within f a slide limit pos =
    let up = up_within (tenths f * (sum f a slide * a)) scale limit (lit< tt) in
    let down = down_within (limit * scale) (tenths f * a) (sum f a slide) (mul-pos (tenths_pos f) pos) in (
      λ h. down.1 (omega (arith, up.0 (rw (area_high f a slide) h))),
      λ h. rw (← area_high f a slide) (up.1 (omega (arith, down.0 h))),
    )

-- a slide more is as much more of the sum, where the formula has a slide
slide_adds : (f : Formula) → (f ≡ GlideOnly → ⊥) → (a slide : ℕ) → sum f a slide ≡ sum f a 0 + slide
slide_adds Whole g a slide = omega arith
slide_adds SixTenths g a slide = omega arith
slide_adds GlideOnly g a slide = absurd (g refl)

sum_least : (f : Formula) (a slide : ℕ) → sum f a 0 ≤ sum f a slide
sum_least Whole a slide = omega arith
sum_least SixTenths a slide = omega arith
sum_least GlideOnly a slide = omega arith

module _ (w limit : ℕ) {f : Formula} (e : f ≡ formula_of w) where
  -- the largest sum
  abbrev largest : ℕ
  largest = limit * scale / (tenths f * full_width w)

  within : (slide : ℕ) → high_area w slide ≤ limit ↔ sum f (full_width w) slide ≤ largest
  within slide = rw e (sum_within (formula_of w) (full_width w) slide limit (omega arith))

  -- even without a slide the area is larger than the limit
  pub too_large : largest < sum f (full_width w) 0 → SlideWithin w limit None
  too_large h slide =
      ⊎_elim (λ l. l) (λ (l : high_area w slide ≤ limit). absurd (omega (arith, h, sum_least f (full_width w) slide, (within slide).0 l))) (lt_or_le limit (high_area w slide))

  -- a formula without slide: any slide does
  pub any_slide : f ≡ GlideOnly → sum f (full_width w) 0 ≤ largest → SlideWithin w limit (Some slide_max)
  any_slide g h = (le_refl slide_max, λ slide l. (λ _. l, λ _. (within slide).1 (omega (arith, h, same slide))))
    where
      same : (slide : ℕ) → sum f (full_width w) slide ≡ sum f (full_width w) 0
      same slide = rw g refl

  -- the slide is what is left of the sum
  pub slide_left : (f ≡ GlideOnly → ⊥) → sum f (full_width w) 0 ≤ largest
      → SlideWithin w limit (Some (min slide_max (largest - sum f (full_width w) 0)))
  slide_left g h = (
    omega arith,
    λ slide l. let adds = slide_adds f g (full_width w) slide in
        (λ k. omega (arith, adds, (within slide).0 k), λ k. (within slide).1 (omega (arith, adds, h, k))),
  )

-- ---- line 2 for the speed, line 3 for the mass

-- the square root of n is the largest number whose square is at most n
root_within : (n root v : ℕ) → root * root ≤ n → n < (root + 1) * (root + 1) → v * v ≤ n ↔ v ≤ root
root_within n root v h l = (
  λ k. ⊎_elim (λ (q : root < v). absurd (omega (arith, k, l, mul-le-mul q q))) (λ (q : v ≤ root). q) (lt_or_le root v),
  λ k. le_trans (mul-le-mul k k) h,
)

abbrev pub square_of : ℕ → ℕ
square_of run = run * run_scale / run_rate.high

-- the speeds whose high run is at most this
run_within : (run root v : ℕ) → root * root ≤ square_of run → square_of run < (root + 1) * (root + 1) → (run_of v).high ≤ run ↔ v ≤ root
unfolding run_of
run_within run root v h l =
    let up = up_within (v * v * run_rate.high) run_scale run (lit< tt) in
    let down = down_within (run * run_scale) run_rate.high (v * v) (lit< tt) in
    let root_is = root_within (square_of run) root v h l in
    (λ k. root_is.0 (down.1 (up.0 k)), λ k. up.1 (down.0 (root_is.1 k)))

-- a quotient of a fixed number is at least another one just where the divisor is at most that quotient
quotient_within : (n saving m : ℕ) → 0 < m → m ≤ n → saving ≤ n / m ↔ m ≤ n / max saving 1
quotient_within n saving m pos most = ⊎_elim none some (lt_or_le saving 1)
  where
    none : saving < 1 → saving ≤ n / m ↔ m ≤ n / max saving 1
    none q =
        let one : max saving 1 ≡ 1 = omega arith in
        (λ h. le_down m n (max saving 1) (omega arith) (rw one (omega (arith, most))), λ h. omega arith)

    some : 1 ≤ saving → saving ≤ n / m ↔ m ≤ n / max saving 1
    some q =
        let same : max saving 1 ≡ saving = omega arith in (
          λ h. rw same (le_down m n saving q (omega (arith, (down_within n m saving pos).0 h))),
          λ h. le_down saving n m pos (omega (arith, (down_within n saving m q).0 (rw same at h))),
        )

-- the masses whose low saving is at least this
saving_within : (saving m : ℕ) → 0 < m → m ≤ saving_times_mass.low → saving ≤ (saving_of m).low ↔ m ≤ saving_times_mass.low / max saving 1
unfolding saving_of
saving_within = quotient_within saving_times_mass.low

-- the slide is at most this where the run is at most this and the saving together, and where the saving is at least what the run is more
module _ (slide m v : ℕ) where
  by_run : high_slide m v ≤ slide ↔ (run_of v).high ≤ slide + (saving_of m).low
  by_run = (λ h. omega (arith, h), λ h. omega (arith, h))

  by_saving : high_slide m v ≤ slide ↔ (run_of v).high - slide ≤ (saving_of m).low
  by_saving = (λ h. omega (arith, h), λ h. omega (arith, h))

-- no run is longer than the longest
longest : (n v : ℕ) → v ≤ speed_max → (run_of v).high ≤ n ↔ (run_of v).high ≤ min slide_max n
longest n v h = (λ k. omega (arith, k, (run_max v h).1), λ k. omega (arith, k))

square_most : (n : ℕ) → square_of (min slide_max n) ≤ square_of slide_max
square_most n =
    let l : min slide_max n ≤ slide_max = omega arith in down_mono (min slide_max n * run_scale) (slide_max * run_scale) run_rate.high (lit< tt) (mul-le-mul_right run_scale l)

pub speed_solved : (slide m root : ℕ) → let run = min slide_max (slide + (saving_of m).low) in root * root ≤ square_of run → square_of run < (root + 1) * (root + 1)
    → SpeedWithin slide m root
speed_solved slide m root h l = record {
  in_range = (root_within (square_of slide_max) speed_max root (lit≤ tt) (lit< tt)).0 (le_trans h (square_most (slide + (saving_of m).low)));
  exactly = λ v k.
      let run = run_within (min slide_max (slide + (saving_of m).low)) root v h l in
      let most = longest (slide + (saving_of m).low) v k in
      (λ a. run.0 (most.0 ((by_run slide m v).0 a)), λ a. (by_run slide m v).1 (most.1 (run.1 a)));
}

pub mass_solved : (slide v : ℕ) → MassWithin slide v (min (saving_times_mass.low / max ((run_of v).high - slide) 1) mass_max)
mass_solved slide v = record {
  in_range = omega arith;
  exactly = λ m pos most.
      let by = saving_within ((run_of v).high - slide) m pos (le_trans most (lit≤ tt)) in
      (λ a. omega (arith, by.0 ((by_saving slide m v).0 a), most), λ a. (by_saving slide m v).1 (by.1 (omega (arith, a))));
}
