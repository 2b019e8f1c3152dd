-- Laws of uniform blocks: so many lines of so many fields of one width. And of blocks of one line.
use Rattle.std.proofs.Common.{◌≡◌, ℕ, zero, suc, ◌+◌, ◌*◌, ◌/◌, ◌%◌, ◌^◌, ◌<◌, List, [], ◌∷◌, ◌++◌, length, get_or, replicate, refl, ap, mod-lt, div-lt_iff_lt-mul, arith}
use native.Mathlib.Nat.{div-add-mod}
use lib.ListN.{length-replicate}
use Rattle.arithmetic.specs.Lists.{tabulate}
use Rattle.arithmetic.proofs.ListLaws.{tabulate_same}
use Rattle.arithmetic.proofs.PartLaws.{part_ends}
use Rattle.hex_text.specs.Digits.{field, Fit}
use Rattle.hex_text.specs.Blocks.{Block, fields_at, with_values, BlockFits}

-- fields of one width, as a rule gives them
tabulate_cons : (f : ℕ → ℕ) (n : ℕ) → tabulate f (suc n) ≡ f 0 ∷ tabulate (λ i. f (suc i)) n
unfolding tabulate
tabulate_cons f zero = refl
tabulate_cons f (suc n) = ap (λ (l : List ℕ). l ++ (f (suc n) ∷ [])) (tabulate_cons f n)

pub uniform_fields : (w : ℕ) (s : List ℕ) (n a : ℕ) → fields_at (replicate n w) s a ≡ tabulate (λ k. field s (a + w * k) w) n
uniform_fields w s zero a = unfold tabulate in refl
uniform_fields w s (suc n) a =
    let here : a + w * 0 ≡ a = omega arith in
    rw (tabulate_cons (λ k. field s (a + w * k) w) n, here, uniform_fields w s n (a + w))
    (ap (λ (l : List ℕ). field s a w ∷ l) (tabulate_same (λ k. field s (a + w + w * k) w) (λ k. field s (a + w * suc k) w) n (λ k l. let e : a + w + w * k ≡ a + w * suc k = omega arith in rw e)))

-- m values from place i on fit exactly when each of them has no more than w digits
fit_uniform : (w m : ℕ) (vs : List ℕ) (i : ℕ) → ((j : ℕ) → j < m → get_or vs (i + j) 0 < 16 ^ w) → Fit (with_values (replicate m w) vs i)
fit_uniform w zero vs i h = tt
fit_uniform w (suc m) vs i h =
    let here : i + 0 ≡ i = omega arith in (
      rw here at (h 0 (omega arith)),
      fit_uniform w m vs (i + 1) (λ j l. let next : i + 1 + j ≡ i + suc j = omega arith in rw next (h (suc j) (omega arith))),
    )

uniform_fit : (w m : ℕ) (vs : List ℕ) (i : ℕ) → Fit (with_values (replicate m w) vs i) → (j : ℕ) → j < m → get_or vs (i + j) 0 < 16 ^ w
uniform_fit w zero vs i f j l = absurd (omega arith)
uniform_fit w (suc m) vs i f zero l = let here : i + 0 ≡ i = omega arith in rw here f.0
uniform_fit w (suc m) vs i f (suc j) l =
    let next : i + suc j ≡ i + 1 + j = omega arith in rw next (uniform_fit w m vs (i + 1) f.1 j (omega arith))

module _ (n m w : ℕ) (vs : List ℕ) where
  -- n lines of m fields of w digits
  abbrev uniform : Block
  uniform = record { lines = n; widths = replicate m w }

  pub uniform_fits : length vs ≡ m * n → ((i : ℕ) → i < m * n → get_or vs i 0 < 16 ^ w) → BlockFits uniform vs
  uniform_fits long below =
      record {
        long = rw (length-replicate m w) long;
        fit = λ k l. rw (length-replicate m w) (fit_uniform w m vs (m * k) (λ j h. below (m * k + j) (omega (arith, part_ends k n m (m * n) l (omega arith)))));
      }

  pub uniform_long : BlockFits uniform vs → length vs ≡ m * n
  uniform_long f = rw (length-replicate m w) at f.long

  pub uniform_below : 0 < m → BlockFits uniform vs → (i : ℕ) → i < m * n → get_or vs i 0 < 16 ^ w
  uniform_below some f i h =
      let line : i / m < n = (div-lt_iff_lt-mul some).1 (omega arith) in
      let fit = rw (length-replicate m w) at (f.fit (i / m) line) in
      rw (div-add-mod i m) at (uniform_fit w m vs (m * (i / m)) fit (i % m) (mod-lt i some))

-- one line

module _ (ws vs : List ℕ) where
  first : length ws * 0 ≡ 0
  first = omega arith

  pub line_fits : length vs ≡ length ws → Fit (with_values ws vs 0) → BlockFits (record { lines = 1; widths = ws }) vs
  line_fits long f =
      record {
        long = omega arith;
        fit = λ k l. let only : k ≡ 0 = omega arith in rw (only, first) f;
      }

  pub line_fit : BlockFits (record { lines = 1; widths = ws }) vs → Fit (with_values ws vs 0)
  line_fit f = rw first at (f.fit 0 (omega arith))
