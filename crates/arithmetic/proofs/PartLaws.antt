-- Parts of lists: what the part at a place is, and what a list holds while its parts are filled from the front.
use mathlib.Core.Path.{◌≡◌, refl, ap, sym, ◌∙◌}
use mathlib.Core.Logic.{⊎_elim}
use mathlib.Core.List.{List, [], ◌∷◌, ◌++◌, append_assoc, append-nil}
use Prim.Native.Nat.{ℕ, zero, suc, ◌+◌, ◌-◌, ◌*◌, ◌<◌, ◌≤◌}
use native.Mathlib.Nat.{mul-le-mul_right}
use native.Mathlib.Numerals.{add-one}
use native.Mathlib.Omega.{arith}
use lib.ListN.{length, get_or, take, drop, set, length-append, length-drop, length-take, length-set, take-append-drop, drop_of_length-le}
use lib.Seq.{take-take, take-add, take_at, drop_at, drop-drop, drop-cons, set_at, take_all, get_or-take, get_or-drop, length-take-le}
use borrow.Rule.Slice.PartMut.{put_mid, mid_of}
use Rattle.arithmetic.specs.Lists.{tabulate, joined, part, stored}
use Rattle.arithmetic.proofs.TestLaws.{lt_or_le}
use Rattle.arithmetic.proofs.ListLaws.{length_joined}

-- the part of s from place a, k elements long, is x
pub record PartIs (s : List ℕ) (a k : ℕ) (x : List ℕ) : Type 0 where
  pub is : take k (drop a s) ≡ x
  pub long : length x ≡ k

pub whole_part : (s : List ℕ) (k : ℕ) → length s ≡ k → PartIs s 0 k s
whole_part s k l = record { is = take_all k s (omega arith); long = l }

pub part_whole : (s x : List ℕ) (k : ℕ) → length s ≡ k → PartIs s 0 k x → x ≡ s
part_whole s x k l p = sym p.is ∙ take_all k s (omega arith)

-- two parts, one after the other
module _ (s : List ℕ) (a j k : ℕ) (x y : List ℕ) where
  pub parts_joined : PartIs s a j x → PartIs s (a + j) k y → PartIs s a (j + k) (x ++ y)
  parts_joined p q =
      record {
        is = rw (take-add j k (drop a s), drop-drop j a s, p.is, q.is);
        long = simp length-append (omega (arith, p.long, q.long));
      }

  pub part_left : PartIs s a (j + k) (x ++ y) → length x ≡ j → PartIs s a j x
  part_left p l =
      record {
        is = sym (take-take j (j + k) (drop a s) (omega arith)) ∙ ap (take j) p.is ∙ take_at x y j l;
        long = l;
      }

  pub part_right : PartIs s a (j + k) (x ++ y) → length x ≡ j → PartIs s (a + j) k y
  part_right p l =
      let both : x ++ take k (drop (a + j) s) ≡ x ++ y = rw (take-add j k (drop a s), drop-drop j a s, (part_left p l).is) at p.is in
      record {
        is = sym (drop_at x (take k (drop (a + j) s)) j l) ∙ ap (drop j) both ∙ drop_at x y j l;
        long = omega (arith, simp length-append at p.long);
      }

-- the element i of a part
pub part_at : (s : List ℕ) (a k : ℕ) (x : List ℕ) (i : ℕ) → i < k → PartIs s a k x → get_or x i 0 ≡ get_or s (a + i) 0
part_at s a k x i h p = rw (← p.is) (get_or-take k (drop a s) i 0 h ∙ get_or-drop a s i 0)

-- the slice s[a..a + k]
module _ (s : List ℕ) (a k : ℕ) where
  pub slice_length : a + k ≤ length s → length (part s a (a + k)) ≡ k
  slice_length h = let e : a + k - a ≡ k = omega arith in simp (e, length-take, length-drop) (omega arith)

  pub slice_at : (i : ℕ) → i < k → get_or (part s a (a + k)) i 0 ≡ get_or s (a + i) 0
  slice_at i l = get_or-take (a + k - a) (drop a s) i 0 (omega arith) ∙ get_or-drop a s i 0

-- parts of one width, one after the other
module _ (f : ℕ → List ℕ) (w : ℕ) (s : List ℕ) (a : ℕ) where
  pub joined_is : (n : ℕ) → ((i : ℕ) → i < n → PartIs s (a + w * i) w (f i)) → PartIs s a (w * n) (joined f n)
  unfolding joined
  joined_is zero p =
      let none : w * 0 ≡ 0 = omega arith in rw none (record { is = refl; long = refl })
  joined_is (suc n) p =
      let next : w * suc n ≡ w * n + w = omega arith in
      rw next (parts_joined s a (w * n) w (joined f n) (f n) (joined_is n (λ i h. p i (omega arith))) (p n (omega arith)))

  pub joined_part : ((i : ℕ) → length (f i) ≡ w) → (n : ℕ) → PartIs s a (w * n) (joined f n) → (i : ℕ) → i < n → PartIs s (a + w * i) w (f i)
  unfolding joined
  joined_part wide zero p i h = absurd (omega arith)
  joined_part wide (suc n) p i h =
      ⊎_elim (λ (l : i < n). joined_part wide n (part_left s a (w * n) w (joined f n) (f n) two (length_joined f w wide n)) i l) last (lt_or_le i n)
    where
      two : PartIs s a (w * n + w) (joined f n ++ f n)
      two = let next : w * suc n ≡ w * n + w = omega arith in rw next at p

      last : n ≤ i → PartIs s (a + w * i) w (f i)
      last g =
          let same : i ≡ n = omega arith in rw same (part_right s a (w * n) w (joined f n) (f n) two (length_joined f w wide n))

-- a part of a part
take_within : (b j k : ℕ) (l : List ℕ) → b + j ≤ k → take j (drop b (take k l)) ≡ take j (drop b l)
take_within zero j k l h = take-take j k l (omega arith)
take_within (suc b) j zero l h = absurd (omega arith)
take_within (suc b) j (suc k) [] h = refl
take_within (suc b) j (suc k) (x ∷ l) h = take_within b j k l (omega arith)

pub within : (s : List ℕ) (a k b j : ℕ) → b + j ≤ k → take j (drop b (take k (drop a s))) ≡ take j (drop (a + b) s)
within s a k b j h = rw (take_within b j k (drop a s) h, drop-drop b a s)

-- the k-th of n parts of one width ends within the whole
pub part_ends : (k n w l : ℕ) → k < n → l ≡ n * w → k * w + w ≤ l
part_ends k n w l h e = omega (arith, mul-le-mul_right {m = suc k} {n = n} w h)

-- the list b, as long as the old one, holds `done` before place a and what the old one had from there on
pub record Filled (old : List ℕ) (a : ℕ) (done b : List ℕ) : Type 0 where
  pub is : b ≡ done ++ drop a old
  pub long : length done ≡ a
  pub kept : length b ≡ length old

-- nothing is stored yet, from place a on
pub filled_from : (old : List ℕ) (a : ℕ) → a ≤ length old → Filled old a (take a old) old
filled_from old a h =
    record { is = sym (take-append-drop a old); long = length-take-le a old h; kept = refl }

pub filled_none : (old : List ℕ) → Filled old 0 [] old
filled_none old = record { is = refl; long = refl; kept = refl }

module _ {old : List ℕ} {a : ℕ} {done b : List ℕ} where
  -- the part from a, k long, was lent and comes back as d
  pub part_next : (k : ℕ) (new d : List ℕ) → a + k ≤ length old → Filled old a done b → length new ≡ k → d ≡ new → Filled old (a + k) (done ++ new) (put_mid a k b d)
  part_next k new d h s l e =
      let is : put_mid a k b d ≡ done ++ new ++ drop (a + k) old = rw (e, s.is, take_at done (drop a old) a s.long, drop_at done (drop a old) a s.long, drop-drop k a old, append_assoc) in
      record {
        is = is;
        long = simp length-append (omega (arith, s.long));
        kept = ap length is ∙ simp (length-append, length-drop) (omega (arith, s.long));
      }

  -- the lent part has k elements
  pub part_long : (k : ℕ) → a + k ≤ length old → Filled old a done b → length (mid_of a k b) ≡ k
  part_long k h s =
      rw (s.is, drop_at done (drop a old) a s.long) (simp (length-take, length-drop) (omega arith))

  -- one element is stored
  pub store_next : (x : ℕ) → a < length old → Filled old a done b → Filled old (a + 1) (done ++ (x ∷ [])) (set b a x)
  store_next x h s =
      record {
        is = rw (s.is, add-one, drop-cons old a 0 h, set_at done (get_or old a 0) (drop (suc a) old) x a s.long, append_assoc);
        long = simp length-append (omega (arith, s.long));
        kept = simp length-set s.kept;
      }

  pub filled_all : length old ≤ a → Filled old a done b → b ≡ done
  filled_all h s = s.is ∙ rw (drop_of_length-le old h, append-nil)

-- a list that is filled by a rule, one element after the other
pub rule_none : (f : ℕ → ℕ) (old : List ℕ) → Filled old 0 (tabulate f 0) old
unfolding tabulate
rule_none f old = filled_none old

pub rule_next : (f : ℕ → ℕ) (k x : ℕ) (old b : List ℕ) → k < length old → Filled old k (tabulate f k) b → x ≡ f k → Filled old (k + 1) (tabulate f (k + 1)) (set b k x)
unfolding tabulate
rule_next f k x old b h s e = rw (e, add-one) (rw add-one at (store_next (f k) h s))

-- a list that is filled by rows of one width: the part for row r comes back as f r
pub row_none : (w : ℕ) (f : ℕ → List ℕ) (old : List ℕ) → Filled old (w * 0) (joined f 0) old
unfolding joined
row_none w f old = let none : w * 0 ≡ 0 = omega arith in rw none (filled_none old)

pub row_next : (w r : ℕ) (f : ℕ → List ℕ) (old b d : List ℕ) → w * r + w ≤ length old → Filled old (w * r) (joined f r) b → length (f r) ≡ w → d ≡ f r
    → Filled old (w * (r + 1)) (joined f (r + 1)) (put_mid (w * r) (w * r + w - w * r) b d)
unfolding joined
row_next w r f old b d h s l e =
    let wide : w * r + w - w * r ≡ w = omega arith in
    let next : w * suc r ≡ w * r + w = omega arith in
    rw (wide, add-one, next) (part_next w (f r) d h s l e)

-- the part from a on, and nothing else, was filled with x
pub filled_stored : {old : List ℕ} {b : List ℕ} (a : ℕ) (x : List ℕ) → Filled old (a + length x) (take a old ++ x) b → b ≡ stored a x old
filled_stored {old = old} a x s = s.is ∙ rw (append_assoc, drop-drop (length x) a old)
