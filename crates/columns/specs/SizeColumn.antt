-- The size column of document 02, item 1: "Crews ask why the area route was taken at all."
use Rattle.std.specs.Prelude.{Bool, cond, ◌&&◌, List, [], ◌∷◌, ℕ, eqb, leb, get_or, Option, None, Some}
use Rattle.columns.specs.Column.{first_from}
use Rattle.columns.specs.declared.SizePair.{SizePair}

abbrev pub size_pair : ℕ → ℕ → SizePair
size_pair dimension speed = record { dimension = dimension; speed = speed }

-- "The pairs are 1,000 mm and 2,500 cm/s; 3,000 and 3,500; 8,000 and 7,500; 20,000 and 12,000; 40,000 and 20,000."
abbrev pub size_pairs : List SizePair
size_pairs = size_pair 1000 2500 ∷ size_pair 3000 3500 ∷ size_pair 8000 7500 ∷ size_pair 20000 12000 ∷ size_pair 40000 20000 ∷ []

-- the pair of size column i + 1
abbrev pub size_pair_at : ℕ → SizePair
size_pair_at i = get_or size_pairs i (size_pair 0 0)

-- its "dimension and speed are both at least the aircraft's"
abbrev pub large_enough : ℕ → ℕ → SizePair → Bool
large_enough w v pair = leb w pair.dimension && leb v pair.speed

-- "the first of five whose dimension and speed are both at least the aircraft's"; "0 where none is large enough"
unfoldable pub size_column_of : ℕ → ℕ → ℕ
size_column_of w v = first_from (large_enough w v) 1 size_pairs

-- what the code gives for it: none where it is 0
abbrev pub size_column_found : ℕ → Option ℕ
size_column_found n = cond (eqb n 0) None (Some n)
