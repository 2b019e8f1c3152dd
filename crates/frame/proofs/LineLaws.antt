-- A line that is written field by field: the part for the first field, and the rest.
use Rattle.std.proofs.Common.{◌≡◌, ℕ, ◌+◌, ◌<◌, List, [], ◌∷◌, ◌++◌, length, drop, set, refl, arith, length-append, append_assoc}
use lib.Seq.{drop-drop}
use Rattle.std.specs.List.{IsFirstAndRest}
use Rattle.arithmetic.specs.Lists.{stored}
use Rattle.hex_text.specs.Digits.{digits, written, line_end}
use Rattle.hex_text.proofs.DigitLaws.{length_digits}

module _ (fields : List (ℕ × ℕ)) {first : ℕ × ℕ} {others : List (ℕ × ℕ)} (h : IsFirstAndRest fields first others) where
  pub first_long : length (written fields) ≡ first.0 + length (written others)
  first_long = rw h.0 (simp (length-append, length_digits))

  pub first_written : (old : List ℕ) {part rest : List ℕ} → part ≡ digits first.0 first.1 → rest ≡ stored 0 (written others ++ line_end) (drop first.0 old)
      → part ++ rest ≡ stored 0 (written fields ++ line_end) old
  first_written old p q =
      let x = written others ++ line_end in
      let long : length (digits first.0 first.1 ++ x) ≡ first.0 + length x = simp (length-append, length_digits) (omega arith) in
      rw (h.0, p, q, append_assoc (digits first.0 first.1) (written others) line_end, long, ← (drop-drop (length x) first.0 old), append_assoc (digits first.0 first.1) x (drop (length x) (drop first.0 old)))

pub end_written : (fields : List (ℕ × ℕ)) (old : List ℕ) → length fields ≡ 0 → 0 < length old → set old 0 10 ≡ stored 0 (written fields ++ line_end) old
end_written [] [] e l = absurd (omega arith)
end_written [] (b ∷ old) e l = refl
end_written (f ∷ fields) old e l = absurd (omega arith)
