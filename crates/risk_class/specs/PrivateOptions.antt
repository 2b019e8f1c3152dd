-- Numbers that stand for none, read as options. Only private functions are stated by it.
use Rattle.std.specs.Prelude.{cond, ℕ, ◌+◌, eqb, Option, Some, None}
use Rattle.risk_class.specs.Mitigation.{credit_of, any_not_offered}
use Rattle.risk_class.specs.declared.credits.Credits.{Credits}
use Rattle.risk_class.specs.declared.credits.Mitigation.{Mitigation}
use Rattle.risk_class.specs.declared.credits.Mitigation.TheVariants.{M1A, M1B, M1C, M2}

-- a number, none where it is the one that stands for none
abbrev pub unless : ℕ → ℕ → Option ℕ
unless none n = cond (eqb n none) None (Some n)

-- "in order M1(A), M1(B), M1(C), M2"
abbrev pub place_of : Mitigation → ℕ
place_of M1A = 0
place_of M1B = 1
place_of M1C = 2
place_of M2 = 3

-- the credits of a word, none where a digit isn't offered
abbrev pub credits_of : ℕ → Option Credits
credits_of word =
    cond (any_not_offered word) None (Some (record { m1 = credit_of word 0 + credit_of word 1 + credit_of word 2; m2 = credit_of word 3 }))
