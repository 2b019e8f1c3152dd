-- Refusals 1 to 3: none is given exactly where the aircraft is within its ranges.
use mathlib.Core.Path.{◌≡◌, refl}
use mathlib.Core.Bool.{false}
use Prim.Native.Nat.{ℕ}
use borrow.Author.Tests.{ltb-false, le-ltb}
use lib.Dec.{ltb}
use Rattle.arithmetic.specs.Conditions.{outside}
use Rattle.refusal.specs.Refusals.{first_refusal}
use Rattle.refusal.proofs.RefusalLaws.{first_exactly_when, use_of}
use Rattle.arithmetic.proofs.TestLaws.{inside, not_outside}
use Rattle.sheet.specs.Ranges.{dimension_min, dimension_max, mass_min, mass_max, speed_max, InRange}
use Rattle.sheet.specs.Sheet.{range_tests}

module _ (w m v : ℕ) where
  pub within : (outside dimension_min dimension_max w ≡ false) → (outside mass_min mass_max m ≡ false) → ltb speed_max v ≡ false → InRange w m v
  within d k s =
      let hd = inside dimension_min dimension_max w d in
      let hk = inside mass_min mass_max m k in
      record { dimension_least = hd.0; dimension_most = hd.1; mass_least = hk.0; mass_most = hk.1; speed_most = ltb-false _ _ s }

  -- the three tests of an aircraft within its ranges
  pub tests_fail : InRange w m v → (outside dimension_min dimension_max w ≡ false) × (outside mass_min mass_max m ≡ false) × (ltb speed_max v ≡ false)
  tests_fail r = (
    not_outside dimension_min dimension_max w r.dimension_least r.dimension_most,
    not_outside mass_min mass_max m r.mass_least r.mass_most,
    le-ltb _ _ r.speed_most,
  )

  pub in_range : first_refusal (range_tests w m v) ≡ 0 → InRange w m v
  in_range e = use_of (range_tests w m v) 0 ((first_exactly_when (range_tests w m v) refl 0).0 e) (λ d k s. within d k s)

  pub range_passed : InRange w m v → first_refusal (range_tests w m v) ≡ 0
  range_passed r = let h = tests_fail r in (first_exactly_when (range_tests w m v) refl 0).1 (h.0, (h.1, (h.2, refl)))
