use mathlib.Core.Path.{◌≡◌, refl, sym, ap, ap₂, ◌∙◌}
use mathlib.Core.Logic.{⊎_elim}
use Prim.Native.Nat.{ℕ, ◌*◌, ◌≤◌, ◌<◌}
use native.Mathlib.Nat.{le_refl, le_trans, eq-or-lt_of_le}
use lib.Dec.{lit≤}
use native.Mathlib.Omega.{arith}
use Rattle.columns.specs.Bracket.{bracket}
use Rattle.columns.specs.declared.Bracket.{Bracket}
use Rattle.high_angle.specs.SafetyFactor.{largest, smallest, root_from, root_to, factor_below, factor_above, root_scale, factor_by, low_factor, high_factor}
use Rattle.high_angle.specs.HighAngle.{factor_of}
use Rattle.high_angle.proofs.FactorLaws.{factor_below_lem, factor_above_lem, factor_between}
use Rattle.high_angle.proofs.factor.factor.Goals as goal

-- `factor` gives the low factor of the low joules and the high factor of the high joules.

-- the root at 12,000 J, and at 3,125,000 J, by computation
high_at_12_kj : high_factor root_from ≡ 2302
unfolding high_factor smallest
high_at_12_kj = refl

-- from there on the factor is 7
seven : (root : ℕ → ℕ) (j : ℕ) → root_to ≤ j → root (root_scale * root_to) ≡ factor_above → factor_above ≡ factor_by root j
seven root j h e =
    ⊎_elim
    (λ (q : root_to ≡ j). sym e ∙ sym (factor_between root root_to (lit≤ tt) (le_refl _)) ∙ ap (factor_by root) q)
    (λ (q : root_to < j). sym (factor_above_lem root j q))
    (eq-or-lt_of_le h)

seven_low : (j : ℕ) → root_to ≤ j → factor_above ≡ low_factor j
unfolding low_factor largest
seven_low j h = seven (largest factor_above) j h refl

seven_high : (j : ℕ) → root_to ≤ j → factor_above ≡ high_factor j
unfolding high_factor smallest
seven_high j h = seven (smallest factor_above) j h refl

module _ (joules : Bracket) where
  both_below : joules.low < root_from → joules.high < root_from → bracket factor_below factor_below ≡ factor_of joules
  unfolding factor_of low_factor high_factor
  both_below a b =
      ap₂ bracket (sym (factor_below_lem (largest factor_above) joules.low a)) (sym (factor_below_lem (smallest factor_above) joules.high b))

  across : joules.low < root_from → joules.high ≡ root_from → bracket factor_below 2302 ≡ factor_of joules
  unfolding factor_of low_factor
  across a e = ap₂ bracket (sym (factor_below_lem (largest factor_above) joules.low a)) (sym high_at_12_kj ∙ ap high_factor (sym e))

  both_above : root_to ≤ joules.low → joules.low ≤ joules.high → bracket factor_above factor_above ≡ factor_of joules
  unfolding factor_of
  both_above a b = ap₂ bracket (seven_low joules.low a) (seven_high joules.high (le_trans a b))

pub returns-then-joules-ge-ROOT_TO : goal.returns-then-joules-ge-ROOT_TO
returns-then-joules-ge-ROOT_TO c = both_above _ (omega arith) (omega arith)

pub roots-requires : goal.roots-requires
roots-requires c = (c.requires, omega arith, omega arith)

pub returns-then-joules-lt-ROOT_FROM : goal.returns-then-joules-lt-ROOT_FROM
returns-then-joules-lt-ROOT_FROM c = both_below _ (omega arith) (omega arith)

pub returns : goal.returns
returns c = across _ (omega arith) (omega arith)
