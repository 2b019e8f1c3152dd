-- The frontal area on each line.
use mathlib.Core.Path.{◌≡◌}
use Prim.Native.Nat.{ℕ, ◌+◌, ◌-◌, ◌*◌, ◌/◌, ◌≤◌, ◌<◌}
use native.Mathlib.Omega.{arith}
use borrow.Author.Tests.{le-leb, lt-leb}
use Rattle.frontal_area.specs.FrontalArea.{frontal_area_of}

module _ (w : ℕ) where
  pub line_1 : w ≤ 3000 → frontal_area_of w ≡ 100000 + 200 * (w - 1000)
  unfolding frontal_area_of
  line_1 h = simp (le-leb w 3000 h) (omega arith)

  pub line_2 : 3000 < w → w ≤ 8000 → frontal_area_of w ≡ 500000 + 400 * (w - 3000)
  unfolding frontal_area_of
  line_2 l h = simp (lt-leb w 3000 l, le-leb w 8000 h) (omega arith)

  pub line_3 : 8000 < w → w ≤ 20000 → frontal_area_of w ≡ 2500000 + 2500 * (w - 8000) / 3
  unfolding frontal_area_of
  line_3 l h = simp (lt-leb w 3000 (omega arith), lt-leb w 8000 l, le-leb w 20000 h) (omega arith)

  pub line_4 : 20000 < w → w ≤ 40000 → frontal_area_of w ≡ 12500000 + 625 * (w - 20000)
  unfolding frontal_area_of
  line_4 l h =
      simp (lt-leb w 3000 (omega arith), lt-leb w 8000 (omega arith), lt-leb w 20000 l, le-leb w 40000 h) (omega arith)

  pub past_lines : 40000 < w → frontal_area_of w ≡ 25000000
  unfolding frontal_area_of
  past_lines l =
      simp (lt-leb w 3000 (omega arith), lt-leb w 8000 (omega arith), lt-leb w 20000 (omega arith), lt-leb w 40000 l)
