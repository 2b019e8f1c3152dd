-- Lists made by a rule, a test at every index, and parts of a list.
use Rattle.std.specs.Prelude.{ℕ, zero, suc, ◌-◌, Bool, true, ◌&&◌, List, [], ◌∷◌, ◌++◌, length, take, drop}

-- the list f 0, f 1, .., f (n - 1)
unfoldable pub tabulate : (ℕ → ℕ) → ℕ → List ℕ
tabulate f zero = []
tabulate f (suc n) = tabulate f n ++ (f n ∷ [])

-- the test holds at each number below n
unfoldable pub every : (ℕ → Bool) → ℕ → Bool
every t zero = true
every t (suc n) = every t n && t n

-- the lists f 0, f 1, .., f (n - 1), one after the other
unfoldable pub joined : (ℕ → List ℕ) → ℕ → List ℕ
joined f zero = []
joined f (suc n) = joined f n ++ f n

-- the elements from place a up to place e, as the slice s[a..e]
abbrev pub part : List ℕ → ℕ → ℕ → List ℕ
part s a e = take (e - a) (drop a s)

-- s with x in the place of its elements from place a on
abbrev pub stored : ℕ → List ℕ → List ℕ → List ℕ
stored a x s = take a s ++ (x ++ drop (length x) (drop a s))
