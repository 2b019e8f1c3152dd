-- What is promised of the greatest speed and the greatest mass.
use mathlib.Core.Path.{◌≡◌, refl, ap, ◌∙◌}
use mathlib.Core.Logic.{◌↔◌, ⊎_elim}
use mathlib.Core.Bool.{Bool, true, false}
use mathlib.Core.List.{List, [], ◌∷◌}
use Prim.Native.Nat.{ℕ, ◌+◌, ◌≤◌, ◌<◌}
use native.Mathlib.Nat.{le_refl, le_trans}
use native.Mathlib.Omega.{arith}
use lib.Dec.{lit≤}
use Rattle.arithmetic.proofs.TestLaws.{lt_or_le, not_outside}
use Rattle.refusal.specs.Refusals.{Test, ◌when◌, FirstToHold, AnswerPromise}
use Rattle.refusal.proofs.RefusalLaws.{use_of}
use Rattle.columns.specs.Column.{column_count, not_a_column}
use Rattle.sheet.specs.Ranges.{mass_min, mass_max, speed_max, InRange}
use Rattle.sheet.specs.Lines.{formula_of}
use Rattle.sheet.specs.declared.Formula.TheVariants.{GlideOnly}
use Rattle.sheet.specs.Sheet.{wrong_dimension, wrong_mass, wrong_speed}
use Rattle.sheet.proofs.RangeLaws.{within, tests_fail}
use Rattle.trade_off.specs.declared.GreatestSpeed.{GreatestSpeed}
use Rattle.trade_off.specs.declared.GreatestMass.{GreatestMass}
use Rattle.trade_off.specs.TradeOff.{keeps_to, fastest, heaviest, greatest_speed_tests, greatest_mass_tests, accepted_speed, refused_speed, accepted_mass, refused_mass, greatest_speed_of, greatest_mass_of}
use Rattle.trade_off.specs.Promises.{GreatestOf, GreatestSpeedPromise, GreatestMassPromise, PutIntoTheSheet, KeepsExactlyWhen, TradeOffLaws}
use Rattle.trade_off.proofs.GreatestLaws.{end_found, fails, Greatest}
use Rattle.trade_off.proofs.GreatestAnswers.{AnswerForm, promise, accepted_given, given_accepted, refused_21}
use Rattle.trade_off.proofs.KeepsLaws.{column_place, keeps_accepted, keeps_in_range, keeps_lighter_and_slower, keeps_higher_column, keeps_without_slide, at_speed, at_mass}

-- ---- of any test

module _ (p : ℕ → Bool) (low high : ℕ) (low_passes : (n : ℕ) → p n ≡ true → low ≤ n) (passes_down : (n n' : ℕ) → low ≤ n → n ≤ n' → p n' ≡ true → p n ≡ true) where
  greatest_of_range : {g : ℕ} → Greatest p (high + 1) g → GreatestOf low high p g
  greatest_of_range {g} h = record {
    least = low_passes g h.passes;
    most = omega (arith, h.inside);
    passes = h.passes;
    no_larger = λ n l k. fails (p n) (λ t. omega (arith, l, h.most n (omega (arith, k)) t));
    smaller = λ n l k. passes_down n g l k h.passes;
  }

put_in : (w m v c : ℕ) → keeps_to w m v c ≡ true → PutIntoTheSheet w m v c
put_in w m v c k = let a = keeps_accepted w m v c k in record { accepted = a.0; no_higher = a.1 }

column_right : (c : ℕ) → 1 ≤ c → c ≤ column_count → not_a_column c ≡ false
column_right c h l = not_outside 1 column_count c h l

-- ---- the greatest speed

abbrev speed_form : AnswerForm GreatestSpeed
speed_form = record {
  accepted = accepted_speed;
  refused = refused_speed;
  refusal = λ a. a.refusal;
  value = λ a. a.speed;
  not_refused = λ n. refl;
  its_number = λ n. refl;
  its_value = λ n. refl;
}

module _ (w m c : ℕ) where
  abbrev speed_passes : ℕ → Bool
  speed_passes v = keeps_to w m v c

  abbrev speed : GreatestSpeed
  speed = greatest_speed_of w m c

  abbrev speed_tests : List Test
  speed_tests = 1 when wrong_dimension w ∷ 2 when wrong_mass m ∷ 20 when not_a_column c ∷ []

  speed_in_range : FirstToHold speed_tests 0 → InRange w m 0 × (not_a_column c ≡ false)
  speed_in_range h = use_of speed_tests 0 h (λ d k n. (within w m 0 d k refl, n))

  in_range_speed : {v : ℕ} → InRange w m v → not_a_column c ≡ false → FirstToHold speed_tests 0
  in_range_speed r n = let t = tests_fail w m _ r in (t.0, (t.1, (n, refl)))

  speed_answer : AnswerPromise (λ (a : GreatestSpeed). a.refusal) (greatest_speed_tests w m c) (accepted_speed (fastest w m c)) refused_speed speed
  unfolding greatest_speed_of
  speed_answer = promise speed_form speed_tests speed_passes speed_max refl refl refl

  speed_given : speed.refusal ≡ 0 → InRange w m 0 × (not_a_column c ≡ false) × Greatest speed_passes (speed_max + 1) speed.speed
  unfolding greatest_speed_of
  speed_given e =
      let g = accepted_given speed_form speed_tests speed_passes speed_max refl refl refl e in let r = speed_in_range g.0 in (r.0, r.1, g.1)

  speed_accepted : (v : ℕ) → not_a_column c ≡ false → speed_passes v ≡ true → speed.refusal ≡ 0
  unfolding greatest_speed_of
  speed_accepted v n k =
      let r = keeps_in_range w m v c k in
      given_accepted speed_form speed_tests speed_passes speed_max refl refl refl (in_range_speed r n) v r.speed_most k

  slower : not_a_column c ≡ false → (v v' : ℕ) → v ≤ v' → speed_passes v' ≡ true → speed_passes v ≡ true
  slower n v v' l k = keeps_lighter_and_slower w m m v v' c n (keeps_in_range w m v' c k).mass_least (le_refl m) l k

  speed_21 : speed.refusal ≡ 21 ↔ InRange w m 0 × ((1 ≤ c) × (c ≤ column_count)) × ((v : ℕ) → v ≤ speed_max → speed_passes v ≡ false)
  unfolding greatest_speed_of
  speed_21 =
      let by = refused_21 speed_form speed_tests speed_passes speed_max refl refl refl in (
        λ e. let h = by.0 e in let r = speed_in_range h.0 in (r.0, column_place c r.1, h.1),
        λ h. by.1 (in_range_speed h.0 (column_right c h.1.0 h.1.1), h.2),
      )

  pub greatest_speed_promise : GreatestSpeedPromise w m c
  greatest_speed_promise = record {
    answer = speed_answer;
    greatest = λ e. let g = speed_given e in greatest_of_range speed_passes 0 speed_max (λ n k. omega arith) (λ n n' _ l k. slower g.1 n n' l k) g.2;
    put_in = λ e. put_in w m speed.speed c (speed_given e).2.passes;
    twenty_one = speed_21;
  }

-- ---- the greatest mass

abbrev mass_form : AnswerForm GreatestMass
mass_form = record {
  accepted = accepted_mass;
  refused = refused_mass;
  refusal = λ a. a.refusal;
  value = λ a. a.mass;
  not_refused = λ n. refl;
  its_number = λ n. refl;
  its_value = λ n. refl;
}

module _ (w v c : ℕ) where
  abbrev mass_passes : ℕ → Bool
  mass_passes m = keeps_to w m v c

  abbrev mass : GreatestMass
  mass = greatest_mass_of w v c

  abbrev mass_tests : List Test
  mass_tests = 1 when wrong_dimension w ∷ 3 when wrong_speed v ∷ 20 when not_a_column c ∷ []

  mass_in_range : FirstToHold mass_tests 0 → InRange w mass_min v × (not_a_column c ≡ false)
  mass_in_range h = use_of mass_tests 0 h (λ d s n. (within w mass_min v d refl s, n))

  in_range_mass : {m : ℕ} → InRange w m v → not_a_column c ≡ false → FirstToHold mass_tests 0
  in_range_mass r n = let t = tests_fail w _ v r in (t.0, (t.2, (n, refl)))

  mass_answer : AnswerPromise (λ (a : GreatestMass). a.refusal) (greatest_mass_tests w v c) (accepted_mass (heaviest w v c)) refused_mass mass
  unfolding greatest_mass_of
  mass_answer = promise mass_form mass_tests mass_passes mass_max refl refl refl

  mass_given : mass.refusal ≡ 0 → InRange w mass_min v × (not_a_column c ≡ false) × Greatest mass_passes (mass_max + 1) mass.mass
  unfolding greatest_mass_of
  mass_given e =
      let g = accepted_given mass_form mass_tests mass_passes mass_max refl refl refl e in let r = mass_in_range g.0 in (r.0, r.1, g.1)

  mass_accepted : (m : ℕ) → not_a_column c ≡ false → mass_passes m ≡ true → mass.refusal ≡ 0
  unfolding greatest_mass_of
  mass_accepted m n k =
      let r = keeps_in_range w m v c k in
      given_accepted mass_form mass_tests mass_passes mass_max refl refl refl (in_range_mass r n) m r.mass_most k

  lighter : not_a_column c ≡ false → (m m' : ℕ) → mass_min ≤ m → m ≤ m' → mass_passes m' ≡ true → mass_passes m ≡ true
  lighter n m m' least h k = keeps_lighter_and_slower w m m' v v c n least h (le_refl v) k

  -- a mass below the range doesn't pass
  too_light : (m : ℕ) → m < mass_min → mass_passes m ≡ false
  too_light m l = fails _ (λ k. omega (arith, l, (keeps_in_range w m v c k).mass_least))

  mass_21 : mass.refusal ≡ 21 ↔ InRange w mass_min v × ((1 ≤ c) × (c ≤ column_count)) × ((m : ℕ) → mass_min ≤ m → m ≤ mass_max → mass_passes m ≡ false)
  unfolding greatest_mass_of
  mass_21 =
      let by = refused_21 mass_form mass_tests mass_passes mass_max refl refl refl in (
        λ e. let h = by.0 e in let r = mass_in_range h.0 in (r.0, column_place c r.1, λ m _ l. h.1 m l),
        λ h. by.1 (in_range_mass h.0 (column_right c h.1.0 h.1.1), λ m l. ⊎_elim (too_light m) (λ k. h.2 m k l) (lt_or_le m mass_min)),
      )

  pub greatest_mass_promise : GreatestMassPromise w v c
  greatest_mass_promise = record {
    answer = mass_answer;
    greatest = λ e. let g = mass_given e in greatest_of_range mass_passes mass_min mass_max (λ m k. (keeps_in_range w m v c k).mass_least) (lighter g.1) g.2;
    put_in = λ e. put_in w mass.mass v c (mass_given e).2.passes;
    twenty_one = mass_21;
  }

-- ---- the laws

-- a speed, a mass, that passes is at most the greatest
by_speed : (w m v c : ℕ) → not_a_column c ≡ false → keeps_to w m v c ≡ true → ((speed w m c).refusal ≡ 0) × (v ≤ (speed w m c).speed)
by_speed w m v c n k =
    let e = speed_accepted w m c v n k in (e, (speed_given w m c e).2.most v (omega (arith, (keeps_in_range w m v c k).speed_most)) k)

by_mass : (w m v c : ℕ) → not_a_column c ≡ false → keeps_to w m v c ≡ true → ((mass w v c).refusal ≡ 0) × (m ≤ (mass w v c).mass)
by_mass w m v c n k =
    let e = mass_accepted w v c m n k in (e, (mass_given w v c e).2.most m (omega (arith, (keeps_in_range w m v c k).mass_most)) k)

keeps_exactly_when : (w m v c : ℕ) → InRange w m v → 1 ≤ c → c ≤ column_count → KeepsExactlyWhen w m v c
keeps_exactly_when w m v c r h l =
    let n = column_right c h l in record {
      by_speed = (by_speed w m v c n, λ a. slower w m c n v (speed w m c).speed a.1 (speed_given w m c a.0).2.passes);
      by_mass = (by_mass w m v c n, λ a. lighter w v c n m (mass w v c).mass r.mass_least a.1 (mass_given w v c a.0).2.passes);
    }

-- without a slide the end of the range passes, so it is the answer
no_slide_speed : (w m c : ℕ) → formula_of w ≡ GlideOnly → InRange w m 0 → 1 ≤ c → c ≤ column_count → speed w m c ≡ accepted_speed speed_max
no_slide_speed w m c e r h l =
    let n = column_right c h l in
    let k = keeps_without_slide w m speed_max c (at_speed r (le_refl speed_max)) n e in
    (speed_answer w m c).if_accepted (by_speed w m speed_max c n k).0 ∙ ap accepted_speed (end_found (speed_passes w m c) speed_max k)

no_slide_mass : (w v c : ℕ) → formula_of w ≡ GlideOnly → InRange w mass_min v → 1 ≤ c → c ≤ column_count → mass w v c ≡ accepted_mass mass_max
no_slide_mass w v c e r h l =
    let n = column_right c h l in
    let k = keeps_without_slide w mass_max v c (at_mass r (lit≤ tt) (le_refl mass_max)) n e in
    (mass_answer w v c).if_accepted (by_mass w mass_max v c n k).0 ∙ ap accepted_mass (end_found (mass_passes w v c) mass_max k)

higher_column_right : (c c' : ℕ) → not_a_column c ≡ false → c ≤ c' → c' ≤ column_count → not_a_column c' ≡ false
higher_column_right c c' n h l = column_right c' (le_trans (column_place c n).0 h) l

pub trade_off_laws : TradeOffLaws
trade_off_laws = record {
  higher_column_speed = λ w m c c' h l e.
      let g = speed_given w m c e in by_speed w m (speed w m c).speed c' (higher_column_right c c' g.1 h l) (keeps_higher_column w m _ c c' h g.2.passes);
  higher_column_mass = λ w v c c' h l e.
      let g = mass_given w v c e in by_mass w (mass w v c).mass v c' (higher_column_right c c' g.1 h l) (keeps_higher_column w _ v c c' h g.2.passes);
  heavier = λ w m m' c least h e.
      let g = speed_given w m' c e in by_speed w m (speed w m' c).speed c g.1 (keeps_lighter_and_slower w m m' _ _ c g.1 least h (le_refl _) g.2.passes);
  faster = λ w v v' c h e.
      let g = mass_given w v' c e in
      by_mass w (mass w v' c).mass v c g.1 (keeps_lighter_and_slower w _ _ v v' c g.1 (keeps_in_range w _ v' c g.2.passes).mass_least (le_refl _) h g.2.passes);
  no_slide_speed = no_slide_speed;
  no_slide_mass = no_slide_mass;
  keeps = keeps_exactly_when;
}
