use mathlib.Core.Path.{◌≡◌, refl, sym, ap, ◌∙◌}
use mathlib.Core.Logic.{⊎_elim}
use mathlib.Core.Bool.{Bool, ◌||◌}
use Prim.Native.Nat.{ℕ, zero, suc, ◌≤◌, ◌<◌, max}
use native.Mathlib.Omega.{arith}
use borrow.Author.Tests.{lt-ltb, le-ltb}
use lib.Dec.{ltb}
use Rattle.arithmetic.specs.Conditions.{any_below}
use Rattle.arithmetic.specs.SumsAndMaxima.{max_below}
use Rattle.arithmetic.proofs.SumLaws.{max_next}
use Rattle.arithmetic.proofs.TestLaws.{lt_or_le}
use Rattle.map.specs.Size.{map_columns}
use Rattle.map.specs.Map.{largest_count, count_at}
use Rattle.map.proofs.counts.wrong_row.Goals as goal

module _ (limit : ℕ) where
  -- the larger of two is above a limit where one of them is
  larger_above : (a b : ℕ) → ltb limit (max a b) ≡ (ltb limit a || ltb limit b)
  larger_above a b =
      ⊎_elim (λ (h : limit < a). simp (lt-ltb limit a h) (lt-ltb limit (max a b) (omega arith)))
      (λ (h : a ≤ limit).
      simp (le-ltb limit a h)
      (⊎_elim (λ (k : limit < b). lt-ltb limit (max a b) (omega arith) ∙ sym (lt-ltb limit b k))
      (λ (k : b ≤ limit). le-ltb limit (max a b) (omega arith) ∙ sym (le-ltb limit b k)) (lt_or_le limit b)))
      (lt_or_le limit a)

  largest_tells : (f : ℕ → ℕ) (n : ℕ) → ltb limit (max_below f n) ≡ any_below (λ i. ltb limit (f i)) n
  unfolding max_below any_below
  largest_tells f zero = le-ltb limit 0 (omega arith)
  largest_tells f (suc n) = larger_above (max_below f n) (f n) ∙ ap (λ (t : Bool). t || ltb limit (f n)) (largest_tells f n)

pub loop-count-init : goal.loop-count-init
unfolding max_below
loop-count-init c = refl

pub loop-count-preserved : goal.loop-count-preserved
loop-count-preserved c =
    let count = count_at c.args.counts.now in
    c.max-most.ensures ∙ ap (λ (x : ℕ). max x (count c.loop-count.count-index)) c.loop-count.invariant ∙ sym (max_next count c.loop-count.count-index)

pub returns : goal.returns
returns c =
    let past : c.loop-count.count-index ≡ map_columns = omega arith in
    ap (ltb largest_count) (c.loop-count.invariant ∙ ap (max_below (count_at c.args.counts.now)) past)
    ∙ largest_tells largest_count (count_at c.args.counts.now) map_columns
