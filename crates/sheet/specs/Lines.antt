-- Lines 1 to 6 of the sheet, "in whole numbers, each low and high. Lengths are micrometres"
use Rattle.std.specs.Prelude.{cond, ℕ, ◌+◌, ◌-◌, ◌*◌, leb}
use Rattle.columns.specs.Bracket.{bracket, rounded_outward}
use Rattle.columns.specs.declared.Bracket.{Bracket}
use Rattle.sheet.specs.declared.Formula.{Formula}
use Rattle.sheet.specs.declared.Formula.TheVariants.{Whole, SixTenths, GlideOnly}

-- "a is w + 600, in millimetres": twice D, the dimension and a person's width
abbrev pub full_width : ℕ → ℕ
full_width w = w + 600

-- "1. Glide: low 2,570,666, high 2,570,667."
abbrev pub glide_of : Bracket
glide_of = bracket 2570666 2570667

-- "2. Run: v × v × 1,926,617,433 / 10⁹ rounded down; v × v × 1,926,617,434 / 10⁹ rounded up."
abbrev pub run_rate : Bracket
run_rate = bracket 1926617433 1926617434

abbrev pub run_scale : ℕ
run_scale = 1000000000

unfoldable pub run_of : ℕ → Bracket
run_of v = rounded_outward (v * v * run_rate.low) (v * v * run_rate.high) run_scale

-- "3. Saving: 39,415,562,351 / m rounded down; 39,415,562,352 / m rounded up."
abbrev pub saving_times_mass : Bracket
saving_times_mass = bracket 39415562351 39415562352

unfoldable pub saving_of : ℕ → Bracket
saving_of m = rounded_outward saving_times_mass.low saving_times_mass.high m

-- "4. Slide low: run low less saving high. Slide high: run high less saving low. Zero where negative."
abbrev pub slide_of : Bracket → Bracket → Bracket
slide_of run saving = bracket (run.low - saving.high) (run.high - saving.low)

-- "5. T is a × (glide + slide) + 785 × a × a, in thousandths of a square millimetre."
abbrev pub total_at : ℕ → ℕ → ℕ → ℕ
total_at a glide slide = a * (glide + slide) + 785 * a * a

unfoldable pub total_of : ℕ → Bracket → Bracket → Bracket
total_of a glide slide =
    bracket (total_at a glide.low slide.low) (total_at a glide.high slide.high)

-- The cuts, by document 02, item 6: "8 metres and above is the first case, below 1 metre is the third. So 1,000 mm takes six tenths of the full formula
-- and 8,000 mm takes all of it." Document 01 had "above 8,000 mm" and "above 1,000 mm".
abbrev pub whole_from : ℕ
whole_from = 8000

abbrev pub six_tenths_from : ℕ
six_tenths_from = 1000

-- the three area formulas: the whole one from the first dimension up, six tenths of it from the second, "otherwise" glide only
unfoldable pub formula_of : ℕ → Formula
formula_of w = cond (leb whole_from w) Whole (cond (leb six_tenths_from w) SixTenths GlideOnly)

-- "2 × a × glide + 785 × a × a"
abbrev pub glide_only_at : ℕ → ℕ → ℕ
glide_only_at a glide = 2 * a * glide + 785 * a * a

-- "6. Area in square centimetres, low rounded down and high rounded up: T / 100,000 [from] 8,000 mm;
-- 3 × T / 500,000 [from] 1,000 mm; otherwise (2 × a × glide + 785 × a × a) / 200,000."
abbrev pub area_num : Formula → ℕ → ℕ → ℕ → ℕ
area_num Whole a glide total = total
area_num SixTenths a glide total = 3 * total
area_num GlideOnly a glide total = glide_only_at a glide

abbrev pub area_den : Formula → ℕ
area_den Whole = 100000
area_den SixTenths = 500000
area_den GlideOnly = 200000

unfoldable pub area_of : Formula → ℕ → Bracket → Bracket → Bracket
area_of f a glide total =
    rounded_outward (area_num f a glide.low total.low) (area_num f a glide.high total.high) (area_den f)

-- line 6 in another form, as `area_in_tenths` proves: so many tenths of a total, over 100,000. The total is T, and of GlideOnly it is T with the glide in
-- the slide's place.
abbrev pub tenths : Formula → ℕ
tenths Whole = 10
tenths SixTenths = 6
tenths GlideOnly = 5
