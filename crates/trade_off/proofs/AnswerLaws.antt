-- The answers as the code makes them: each way out, and the greatest number from what the lines are solved for.
use mathlib.Core.Path.{◌≡◌, refl}
use mathlib.Core.Logic.{◌↔◌}
use mathlib.Core.Bool.{true, false, cond}
use mathlib.Core.List.{List, [], ◌∷◌}
use Rattle.std.proofs.Common.{Some, None}
use Prim.Native.Nat.{ℕ, ◌-◌, ◌≤◌, ◌<◌}
use native.Mathlib.Nat.{le_refl}
use native.Mathlib.Omega.{arith}
use lib.Dec.{eqb}
use Rattle.refusal.specs.Refusals.{Test, ◌when◌, first_refusal}
use Rattle.refusal.proofs.RefusalLaws.{FollowsFrom, use_of, first_exactly_when, way_out_after, refused_before}
use Rattle.columns.specs.Column.{limit_at, not_a_column}
use Rattle.sheet.specs.Ranges.{mass_min, mass_max, speed_max, InRange}
use Rattle.sheet.proofs.LineBounds.{run_max}
use Rattle.sheet.proofs.RangeLaws.{within}
use Rattle.trade_off.specs.TradeOff.{keeps_to, fastest, heaviest, no_speed, no_mass, accepted_speed, refused_speed, accepted_mass, refused_mass, greatest_speed_of, greatest_mass_of}
use Rattle.trade_off.specs.PrivateGiven.{given_tests}
use Rattle.trade_off.specs.PrivateSolved.{high_slide, SlideWithin, SpeedWithin, MassWithin}
use Rattle.trade_off.proofs.GreatestLaws.{fails, none_passes, is_found}
use Rattle.trade_off.proofs.KeepsLaws.{keeps_in_range, keeps_exactly, at_speed, at_mass}

-- ---- what is solved

module _ (w c : ℕ) {limit : ℕ} (n : not_a_column c ≡ false) (l : limit_at (c - 1) ≡ limit) where
  -- no aircraft keeps to the column
  none_keeps : SlideWithin w limit None → (m v : ℕ) → keeps_to w m v c ≡ true → ⊥
  none_keeps h m v k = omega (arith, h (high_slide m v), (keeps_exactly w m v c (keeps_in_range w m v c k) n).0 k, l)

  pub no_speed_keeps : SlideWithin w limit None → (m : ℕ) → no_speed w m c ≡ true
  no_speed_keeps h m = (none_passes (λ v. keeps_to w m v c) speed_max).1 (λ v _. fails _ (none_keeps h m v))

  pub no_mass_keeps : SlideWithin w limit None → (v : ℕ) → no_mass w v c ≡ true
  no_mass_keeps h v = (none_passes (λ m. keeps_to w m v c) mass_max).1 (λ m _. fails _ (none_keeps h m v))

  -- one in range does where its slide is at most the greatest
  keeps_by_slide : {most : ℕ} → SlideWithin w limit (Some most) → (m v : ℕ) → InRange w m v → keeps_to w m v c ≡ true ↔ high_slide m v ≤ most
  keeps_by_slide {most} h m v r =
      let area = keeps_exactly w m v c r n in
      let slide = h.1 (high_slide m v) (omega (arith, (run_max v r.speed_most).1)) in
      (λ k. slide.0 (omega (arith, area.0 k, l)), λ k. area.1 (omega (arith, slide.1 k, l)))

  -- the greatest speed that does
  pub speed_found : {most : ℕ} → SlideWithin w limit (Some most) → (m : ℕ) → InRange w m 0 → {r : ℕ} → SpeedWithin most m r
      → (no_speed w m c ≡ false) × (fastest w m c ≡ r)
  speed_found h m i {r} s = is_found (λ v. keeps_to w m v c) speed_max r record {
    inside = omega (arith, s.in_range);
    passes = (keeps_by_slide h m r (at_speed i s.in_range)).1 ((s.exactly r s.in_range).1 (le_refl r));
    most = λ v l k. (s.exactly v (omega arith)).0 ((keeps_by_slide h m v (at_speed i (omega arith))).0 k);
  }

  module _ {most : ℕ} (h : SlideWithin w limit (Some most)) (v : ℕ) {r : ℕ} (s : MassWithin most v r) where
    mass_most : (m : ℕ) → keeps_to w m v c ≡ true → m ≤ r
    mass_most m k =
        let i = keeps_in_range w m v c k in (s.exactly m (omega (arith, i.mass_least)) i.mass_most).0 ((keeps_by_slide h m v i).0 k)

    -- the greatest mass that does, where it is in range
    pub mass_found : InRange w mass_min v → mass_min ≤ r → (no_mass w v c ≡ false) × (heaviest w v c ≡ r)
    mass_found i least = is_found (λ m. keeps_to w m v c) mass_max r record {
      inside = omega (arith, s.in_range);
      passes = (keeps_by_slide h r v (at_mass i least s.in_range)).1 ((s.exactly r (omega (arith, least)) s.in_range).1 (le_refl r));
      most = λ m l k. mass_most m k;
    }

    pub mass_too_small : r < mass_min → no_mass w v c ≡ true
    mass_too_small l =
        (none_passes (λ m. keeps_to w m v c) mass_max).1 (λ m _. fails _ (λ k. omega (arith, l, mass_most m k, (keeps_in_range w m v c k).mass_least)))

-- ---- the ways out

-- what is given is in range, and the column is one
pub given : (w m v c : ℕ) → first_refusal (given_tests w m v c) ≡ 0 → InRange w m v × (not_a_column c ≡ false)
given w m v c e =
    use_of (given_tests w m v c) 0 ((first_exactly_when (given_tests w m v c) refl 0).0 e) (λ d k s n. (within w m v d k s, n))

-- of an aircraft at speed 0, whose speed is in range: as what is given is judged, and then 21
module _ (w m c : ℕ) {n : ℕ} (e : n ≡ first_refusal (given_tests w m 0 c)) where
  abbrev speed_tests : List Test
  speed_tests = 21 when no_speed w m c ∷ []

  pub speed_refused : (n ≡ 0 → ⊥) → refused_speed n ≡ greatest_speed_of w m c
  unfolding greatest_speed_of
  speed_refused = refused_before (accepted_speed (fastest w m c)) refused_speed (given_tests w m 0 c) speed_tests refl e

  pub speed_way_out : n ≡ 0 → (k : ℕ) → FollowsFrom speed_tests k (cond (eqb k 0) (accepted_speed (fastest w m c)) (refused_speed k) ≡ greatest_speed_of w m c)
  unfolding greatest_speed_of
  speed_way_out = way_out_after (accepted_speed (fastest w m c)) refused_speed (given_tests w m 0 c) speed_tests refl e refl

-- of an aircraft of the least mass, which is in range
module _ (w v c : ℕ) {n : ℕ} (e : n ≡ first_refusal (given_tests w mass_min v c)) where
  abbrev mass_tests : List Test
  mass_tests = 21 when no_mass w v c ∷ []

  pub mass_refused : (n ≡ 0 → ⊥) → refused_mass n ≡ greatest_mass_of w v c
  unfolding greatest_mass_of
  mass_refused = refused_before (accepted_mass (heaviest w v c)) refused_mass (given_tests w mass_min v c) mass_tests refl e

  pub mass_way_out : n ≡ 0 → (k : ℕ) → FollowsFrom mass_tests k (cond (eqb k 0) (accepted_mass (heaviest w v c)) (refused_mass k) ≡ greatest_mass_of w v c)
  unfolding greatest_mass_of
  mass_way_out = way_out_after (accepted_mass (heaviest w v c)) refused_mass (given_tests w mass_min v c) mass_tests refl e refl
