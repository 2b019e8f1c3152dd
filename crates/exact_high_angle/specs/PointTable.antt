-- The worked points. checker/expectations writes this file, from document 02, item 2; it is never edited by hand.
use Rattle.std.specs.Prelude.{List, [], ◌∷◌}
use Rattle.columns.specs.Bracket.{bracket}
use Rattle.exact_high_angle.specs.HighAnglePoint.{HighAnglePoint, accepted, refused}

-- dimension, mass, speed; frontal area, joules, factor and area; column, flag and exact column. Or dimension, mass, speed and the refusal.
abbrev pub points : List HighAnglePoint
points =
    -- the five points of the frontal area, the last with the largest area of all
    accepted 1000 10000 0 100000 (bracket 10010 10011) (bracket 2300 2300) (bracket 46220 46221) 1 0 1
    ∷ accepted 3000 50000 2500 500000 (bracket 50051 50052) (bracket 3062 3063) (bracket 311515 311618) 2 0 2
    ∷ accepted 8000 250000 0 2500000 (bracket 250255 250256) (bracket 4224 4225) (bracket 2452395 2452976) 3 0 3
    ∷ accepted 20000 1000000 40000 12500000 (bracket 800816 800817) (bracket 5331 5332) (bracket 17758765 17762098) 4 0 4
    ∷ accepted 40000 25000000 0 25000000 (bracket 250255102 250255103) (bracket 7000 7000) (bracket 90577382 90577382) 5 0 5
    -- on each line between them; the third alone is rounded
    ∷ accepted 1001 50 1 100200 (bracket 0 1) (bracket 2300 2300) (bracket 46278 46279) 1 0 1
    ∷ accepted 7999 100000 7500 2499600 (bracket 40047 40048) (bracket 2928 2929) (bracket 1699560 1700141) 3 0 3
    ∷ accepted 8001 100000 0 2500833 (bracket 40027 40028) (bracket 2928 2929) (bracket 1700351 1700932) 3 0 3
    ∷ accepted 39999 2000000 0 24999375 (bracket 1601672 1601673) (bracket 6124 6125) (bracket 79238366 79251306) 5 0 5
    -- up to 11,999 J, and from there to 12,000 J
    ∷ accepted 3000 24481 0 500000 (bracket 11998 11999) (bracket 2300 2300) (bracket 233992 233993) 2 0 2
    ∷ accepted 3000 24482 0 500000 (bracket 11999 12000) (bracket 2300 2302) (bracket 233992 234197) 2 0 2
    -- exactly 12,000 J, and one gram less and more
    ∷ accepted 3385 28000 0 654000 (bracket 12000 12000) (bracket 2301 2302) (bracket 286842 286967) 2 0 2
    ∷ accepted 3385 27999 0 654000 (bracket 11999 12000) (bracket 2300 2302) (bracket 286717 286967) 2 0 2
    ∷ accepted 3385 28001 0 654000 (bracket 12000 12001) (bracket 2301 2302) (bracket 286842 286967) 2 0 2
    -- between 11,999 and 12,000 J, the factor from 2.3 to above the root
    ∷ accepted 34164 159990 0 21352500 (bracket 11999 12000) (bracket 2300 2302) (bracket 21820111 21839087) 4 0 4
    -- up to 3,125,000 J, and from there on
    ∷ accepted 1035 182766 0 107000 (bracket 3124999 3125000) (bracket 6999 7000) (bracket 146872 146894) 2 0 2
    ∷ accepted 1039 183448 0 107800 (bracket 3125000 3125001) (bracket 7000 7000) (bracket 147613 147614) 2 0 2
    -- exactly 3,125,000 J, and one gram less and more
    ∷ accepted 2462 350000 0 392400 (bracket 3125000 3125000) (bracket 7000 7000) (bracket 515202 515203) 2 0 2
    ∷ accepted 2462 349999 0 392400 (bracket 3124982 3124983) (bracket 6999 7000) (bracket 515129 515203) 2 0 2
    ∷ accepted 2462 350001 0 392400 (bracket 3125017 3125018) (bracket 7000 7000) (bracket 515202 515203) 2 0 2
    -- flagged, with the exact column the one before, and the same
    ∷ accepted 1000 25642 0 100000 (bracket 65818 65819) (bracket 3234 3235) (bracket 64990 65011) 2 1 1
    ∷ accepted 1000 25643 0 100000 (bracket 65823 65824) (bracket 3234 3235) (bracket 64990 65011) 2 1 2
    -- refused 1, 2, 3 and 16: the first that holds, in this order
    ∷ refused 49 49 40001 1
    ∷ refused 100001 50 0 1
    ∷ refused 999 49 40001 2
    ∷ refused 40001 25000001 0 2
    ∷ refused 999 50 40001 3
    ∷ refused 999 50 40000 16
    ∷ refused 40001 25000000 0 16
    ∷ []
