-- What holds of every frontal area, and of its refusal.
use mathlib.Core.Path.{◌≡◌, refl}
use mathlib.Core.Logic.{⊎_elim}
use Prim.Native.Nat.{ℕ, zero, suc, ◌+◌, ◌-◌, ◌*◌, ◌/◌, ◌≤◌, ◌<◌}
use native.Mathlib.Nat.{le_refl, le_trans, eq-or-lt_of_le, le_of_suc-le-suc}
use native.Mathlib.Omega.{arith}
use lib.Dec.{leb, lit≤}
use Rattle.refusal.proofs.RefusalLaws.{first_exactly_when, use_of}
use Rattle.arithmetic.proofs.TestLaws.{le_cond, choice_le, lt_or_le, inside, not_outside}
use Rattle.sheet.proofs.RangeLaws.{within, tests_fail}
use Rattle.frontal_area.specs.FrontalArea.{first_dimension, last_dimension, frontal_area_of, multirotor_tests}
use Rattle.frontal_area.specs.Promises.{FrontalAreaPromise, MultirotorRefusal}
use Rattle.frontal_area.proofs.FrontalLaws.{line_1, line_2, line_3, line_4, past_lines}

least : (w : ℕ) → 100000 ≤ frontal_area_of w
unfolding frontal_area_of
least w =
    le_cond (leb w 3000) (omega arith)
    (le_cond (leb w 8000) (omega arith) (le_cond (leb w 20000) (omega arith) (le_cond (leb w 40000) (omega arith) (omega arith))))

most : (w : ℕ) → frontal_area_of w ≤ 25000000
unfolding frontal_area_of
most w =
    choice_le w 3000 (λ h. omega arith) (λ _.
    choice_le w 8000 (λ h. omega arith) (λ _.
    choice_le w 20000 (λ h. omega arith) (λ _.
    choice_le w 40000 (λ h. omega arith) (λ _. lit≤ tt))))

-- one mm more: both on one line, since each line starts where the one before ends
next : (w : ℕ) → frontal_area_of w ≤ frontal_area_of (suc w)
next w =
    by 3000 (λ h. omega (arith, line_1 w (omega arith), line_1 (suc w) h)) (λ l3.
    by 8000 (λ h. omega (arith, from_2 w l3 (omega arith), from_2 (suc w) (omega arith) h)) (λ l8.
    by 20000 (λ h. omega (arith, from_3 w l8 (omega arith), from_3 (suc w) (omega arith) h)) (λ l20.
    by 40000 (λ h. omega (arith, from_4 w l20 (omega arith), from_4 (suc w) (omega arith) h)) (λ l40.
    omega (arith, most w, past_lines (suc w) (omega arith))))))
  where
    by : (k : ℕ) → (suc w ≤ k → frontal_area_of w ≤ frontal_area_of (suc w)) → (k ≤ w → frontal_area_of w ≤ frontal_area_of (suc w)) → frontal_area_of w ≤ frontal_area_of (suc w)
    by k here after = ⊎_elim here after (lt_or_le w k)

    from_2 : (n : ℕ) → 3000 ≤ n → n ≤ 8000 → frontal_area_of n ≡ 500000 + 400 * (n - 3000)
    from_2 n l h = ⊎_elim (λ (q : 3000 < n). line_2 n q h) (λ (q : n ≤ 3000). omega (arith, line_1 n q)) (lt_or_le 3000 n)

    from_3 : (n : ℕ) → 8000 ≤ n → n ≤ 20000 → frontal_area_of n ≡ 2500000 + 2500 * (n - 8000) / 3
    from_3 n l h = ⊎_elim (λ (q : 8000 < n). line_3 n q h) (λ (q : n ≤ 8000). omega (arith, line_2 n (omega arith) q)) (lt_or_le 8000 n)

    from_4 : (n : ℕ) → 20000 ≤ n → n ≤ 40000 → frontal_area_of n ≡ 12500000 + 625 * (n - 20000)
    from_4 n l h = ⊎_elim (λ (q : 20000 < n). line_4 n q h) (λ (q : n ≤ 20000). omega (arith, line_3 n (omega arith) q)) (lt_or_le 20000 n)

grows : (w w' : ℕ) → w ≤ w' → frontal_area_of w ≤ frontal_area_of w'
grows w zero h = let e : w ≡ 0 = omega arith in rw e (le_refl _)
grows w (suc w') h =
    ⊎_elim (λ (e : w ≡ suc w'). rw e (le_refl _)) (λ (l : w < suc w'). le_trans (grows w w' (le_of_suc-le-suc l)) (next w'))
    (eq-or-lt_of_le h)

pub frontal_area_promise : FrontalAreaPromise
frontal_area_promise = record { least = least; most = most; grows = grows }

pub multirotor_refusal : (w m v : ℕ) → MultirotorRefusal w m v
multirotor_refusal w m v =
    let tests = multirotor_tests w m v in
    let exactly = first_exactly_when tests refl in
    record {
      sixteen = (
        λ e. use_of tests 16 ((exactly 16).0 e) (λ d k s f. (within w m v d k s, f)),
        λ h. let r = tests_fail w m v h.0 in (exactly 16).1 (r.0, (r.1, (r.2, h.1))),
      );
      none = (
        λ e. use_of tests 0 ((exactly 0).0 e) (λ d k s f.
            let l = inside first_dimension last_dimension w f in
            record { ranges = within w m v d k s; dimension_least = l.0; dimension_most = l.1 }),
        λ h. let r = tests_fail w m v h.ranges in
            (exactly 0).1 (r.0, (r.1, (r.2, (not_outside first_dimension last_dimension w h.dimension_least h.dimension_most, refl)))),
      );
    }
