-- The numbers that resolution refuses with (docs/RULES.md, "What stops a record, in checking order").
use Rattle.std.specs.Prelude.{ℕ, List, [], ◌∷◌, Bool, false, ◌||◌, eqb}

abbrev pub resolution_numbers : List ℕ
resolution_numbers = 6 ∷ 7 ∷ 8 ∷ 9 ∷ 10 ∷ 11 ∷ 12 ∷ 13 ∷ 14 ∷ 15 ∷ 16 ∷ 17 ∷ 28 ∷ []

abbrev pub is_in : List ℕ → ℕ → Bool
is_in [] n = false
is_in (m ∷ ms) n = eqb n m || is_in ms n

-- one of resolution's numbers
abbrev pub listed : ℕ → Bool
listed n = is_in resolution_numbers n
