-- The three area formulas are tenths of a total over 100,000.
use mathlib.Core.Path.{◌≡◌, ap₂}
use Prim.Native.Nat.{ℕ, ◌*◌, ◌≤◌, ◌<◌}
use native.Mathlib.Nat.{mul-div-mul_left}
use native.Mathlib.Omega.{arith}
use lib.Dec.{lit<, lit≤}
use Rattle.arithmetic.proofs.RoundingLaws.{scaled_up}
use Rattle.columns.specs.Bracket.{bracket, rounded_outward}
use Rattle.columns.specs.declared.Bracket.{Bracket}
use Rattle.sheet.specs.declared.Formula.{Formula}
use Rattle.sheet.specs.declared.Formula.TheVariants.{Whole, SixTenths, GlideOnly}
use Rattle.sheet.specs.Lines.{total_at, total_of, glide_only_at, area_of, tenths}
use Rattle.sheet.specs.PrivateAreaTenths.{total_taken}

tenths_max : (f : Formula) → tenths f ≤ 10
tenths_max Whole = lit≤ tt
tenths_max SixTenths = lit≤ tt
tenths_max GlideOnly = lit≤ tt

pub tenths_at_most : (f : Formula) {n : ℕ} → n ≡ tenths f → n ≤ 10
tenths_at_most f e = rw e (tenths_max f)

-- so many tenths of a total over 100,000
abbrev in_tenths : ℕ → Bracket → Bracket
in_tenths n total = rounded_outward (n * total.low) (n * total.high) 1000000

-- numerators over a denominator, and k times these over k times that
scaled : (k d low high : ℕ) → 0 < k → 0 < d → rounded_outward (k * low) (k * high) (k * d) ≡ rounded_outward low high d
scaled k d low high h l = ap₂ bracket (mul-div-mul_left low d h) (scaled_up k high d h l)

pub area_in_tenths : (f : Formula) (a : ℕ) (glide total : Bracket) → in_tenths (tenths f) (total_taken f a glide total) ≡ area_of f a glide total
unfolding area_of total_of
area_in_tenths Whole a glide total = scaled 10 100000 total.low total.high (lit< tt) (lit< tt)
area_in_tenths SixTenths a glide total =
    rw (six total.low, six total.high) (scaled 2 500000 (3 * total.low) (3 * total.high) (lit< tt) (lit< tt))
  where
    six : (n : ℕ) → 6 * n ≡ 2 * (3 * n)
    six n = omega arith
area_in_tenths GlideOnly a glide total =
    rw (twice glide.low, twice glide.high) (scaled 5 200000 _ _ (lit< tt) (lit< tt))
  where
    -- the glide twice
    twice : (g : ℕ) → total_at a g g ≡ glide_only_at a g
    twice g = omega arith
