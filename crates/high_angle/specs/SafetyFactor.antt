-- The safety factor of table 6 of 002 (document 02, item 2), in thousandths: fifth roots in whole numbers.
use Rattle.std.specs.Prelude.{cond, ℕ, zero, suc, ◌*◌, ◌^◌, leb, ltb}

-- "the largest whole number whose fifth power is at most" x, of those up to n
unfoldable pub largest : ℕ → ℕ → ℕ
largest zero x = 0
largest (suc n) x = cond (leb (suc n ^ 5) x) (suc n) (largest n x)

-- "the smallest whose fifth power is at least" x, of those up to n; n where there is none
unfoldable pub smallest : ℕ → ℕ → ℕ
smallest zero x = 0
smallest (suc n) x = cond (ltb (n ^ 5) x) (suc n) (smallest n x)

-- "The factor is 2.3 below 12,000 J and 7 above 3,125,000 J."
abbrev pub root_from : ℕ
root_from = 12000

abbrev pub root_to : ℕ
root_to = 3125000

abbrev pub factor_below : ℕ
factor_below = 2300

abbrev pub factor_above : ℕ
factor_above = 7000

-- "5,378,240,000,000 × the low joules", "that constant × the high joules": the fifth power of 1.4 × 1,000, over 1,000 for kJ
abbrev pub root_scale : ℕ
root_scale = 5378240000000

-- "Each of the two is chosen by its own joules alone, 2.3 and 7 included."
abbrev pub factor_by : (ℕ → ℕ) → ℕ → ℕ
factor_by root joules =
    cond (ltb joules root_from) factor_below (cond (ltb root_to joules) factor_above (root (root_scale * joules)))

-- "In thousandths, the low factor is the largest whole number whose fifth power is at most 5,378,240,000,000 × the low joules. The high factor is the
-- smallest whose fifth power is at least that constant × the high joules." At 3,125,000 J both are 7,000, so none larger is looked at.
unfoldable pub low_factor : ℕ → ℕ
low_factor joules = factor_by (largest factor_above) joules

unfoldable pub high_factor : ℕ → ℕ
high_factor joules = factor_by (smallest factor_above) joules
