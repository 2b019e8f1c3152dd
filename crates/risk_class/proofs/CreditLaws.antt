-- Laws of the credits of a mitigation word, as options.
use mathlib.Core.Path.{◌≡◌, refl, ap, ◌∙◌}
use mathlib.Core.Bool.{Bool, true, false, cond}
use mathlib.Core.List.{[]}
use Prim.Native.Nat.{ℕ, ◌-◌, ◌*◌, ◌/◌, ◌%◌, ◌^◌, ◌≤◌, ◌<◌}
use borrow.Author.Tests.{eqb-false}
use lib.Dec.{eqb}
use lib.ListN.{get_or}
use Rattle.std.proofs.Common.{Option, Some, None}
use Rattle.std.proofs.lemmas.List.{get_or-map}
use Rattle.risk_class.specs.Mitigation.{not_offered, credit_table, digit_at, credit_of}
use Rattle.risk_class.specs.PrivateOptions.{unless, place_of}
use Rattle.risk_class.specs.declared.credits.TheConstants.{CREDITS}
use Rattle.risk_class.specs.declared.credits.Mitigation.{Mitigation}
use Rattle.risk_class.specs.declared.credits.Mitigation.TheVariants.{M1A, M1B, M1C, M2}
use Rattle.risk_class.proofs.TableLaws.{credit_le}

-- a digit of four bits
pub digit_is : (m : Mitigation) (word : ℕ) {place : ℕ} → place ≡ place_of m → word / 2 ^ (12 - 4 * place) % 16 ≡ digit_at word (place_of m)
digit_is m word e = ap (λ (p : ℕ). word / 2 ^ (12 - 4 * p) % 16) e ∙ at_place m
  where
    at_place : (m : Mitigation) → word / 2 ^ (12 - 4 * place_of m) % 16 ≡ digit_at word (place_of m)
    at_place M1A = refl
    at_place M1B = refl
    at_place M1C = refl
    at_place M2 = refl

-- the table of options is that of numbers
pub credit_is : (m : Mitigation) (digit : ℕ) → digit < 4 → get_or (get_or CREDITS (place_of m) []) digit None ≡ unless not_offered (get_or (get_or credit_table (place_of m) []) digit 0)
credit_is M1A digit l = get_or-map (unless not_offered) (get_or credit_table 0 []) digit 0 None l
credit_is M1B digit l = get_or-map (unless not_offered) (get_or credit_table 1 []) digit 0 None l
credit_is M1C digit l = get_or-map (unless not_offered) (get_or credit_table 2 []) digit 0 None l
credit_is M2 digit l = get_or-map (unless not_offered) (get_or credit_table 3 []) digit 0 None l

-- a credit that is there is that of the word, and at most 2
pub credit_small : (word which : ℕ) {credit : ℕ} → which ≤ 3 → Some credit ≡ unless not_offered (credit_of word which) → (credit ≡ credit_of word which) × (credit_of word which ≤ 2)
credit_small word which {credit} w3 e = by_test (eqb (credit_of word which) not_offered) refl e
  where
    value : Option ℕ → ℕ
    value (Some x) = x
    value None = credit

    by_test : (t : Bool) → eqb (credit_of word which) not_offered ≡ t → Some credit ≡ cond t None (Some (credit_of word which))
        → (credit ≡ credit_of word which) × (credit_of word which ≤ 2)
    by_test true h k = cc
    by_test false h k = (ap value k, credit_le which _ w3 (eqb-false _ _ h))
