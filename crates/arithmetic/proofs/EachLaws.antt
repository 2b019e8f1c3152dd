-- A claim about each entry of a list: one put together from others, and one of equations.
use mathlib.Core.Path.{◌≡◌}
use mathlib.Core.List.{List, [], ◌∷◌, ◌++◌, map, head-eq_of_cons-eq, tail-eq_of_cons-eq}
use Rattle.arithmetic.specs.Each.{Each}

pub each_append : {A : Type 0} (P : A → Type 0) (xs ys : List A) → Each P xs → Each P ys → Each P (xs ++ ys)
each_append P [] ys h k = k
each_append P (x ∷ xs) ys h k = (h.0, each_append P xs ys h.1 k)

pub each_map : {A B : Type 0} (P : B → Type 0) (f : A → B) (xs : List A) → Each (λ x. P (f x)) xs → Each P (map f xs)
each_map P f [] h = h
each_map P f (x ∷ xs) h = (h.0, each_map P f xs h.1)

-- a table of equations holds when its two sides are the same list: one computation, however long the table
pub each_equal : {A B : Type 0} (f g : A → B) (xs : List A) → map f xs ≡ map g xs → Each (λ x. f x ≡ g x) xs
each_equal f g [] e = tt
each_equal f g (x ∷ xs) e = (head-eq_of_cons-eq e, each_equal f g xs (tail-eq_of_cons-eq e))
