-- The cases P12 to P15 of document 01.
use Rattle.std.specs.Prelude.{◌≡◌, List, [], ◌∷◌, ℕ, pos, negsuc}
use Rattle.risk_class.specs.Mitigation.{refused_final, accepted_final, final_class_of}
use Rattle.risk_class.specs.declared.mitigation.FinalClass.{FinalClass}

pub record FinalPoint : Type 0 where
  pub column : ℕ
  pub class : ℕ
  pub word : ℕ
  pub final : FinalClass

-- "P12 column 3, class 6, 2212 gives 1; P13 column 3, class 6, 2313 gives 0; P14 column 1, class 1, 0003 gives −1; P15 column 5, class 9,
-- 0000 refused 12."
abbrev pub final_points : List FinalPoint
final_points =
    record { column = 3; class = 6; word = 0x2212; final = accepted_final (pos 1) }
    ∷ record { column = 3; class = 6; word = 0x2313; final = accepted_final (pos 0) }
    ∷ record { column = 1; class = 1; word = 0x0003; final = accepted_final (negsuc 0) }
    ∷ record { column = 5; class = 9; word = 0x0000; final = refused_final 12 }
    ∷ []

abbrev pub FinalPointHolds : FinalPoint → Type 0
FinalPointHolds p = final_class_of p.column p.class p.word ≡ p.final
