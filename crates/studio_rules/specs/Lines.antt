-- Lines of what the program writes.
use Rattle.std.specs.Prelude.{ℕ, ◌+◌, Bool, List, [], ◌∷◌, ◌++◌, flat_map, if◌then◌else◌}

-- a line with its line feed, and several
abbrev pub line : List ℕ → List ℕ
line bytes = bytes ++ 10 ∷ []

abbrev pub text_of : List (List ℕ) → List ℕ
text_of = flat_map line

-- each name after a space
abbrev pub spaced_names : List (List ℕ) → List ℕ
spaced_names = flat_map (λ name. 32 ∷ name)

-- the names whose numbers are in the set, in order; the first name has number k
abbrev pub names_in : (ℕ → Bool) → ℕ → List (List ℕ) → List (List ℕ)
names_in set k [] = []
names_in set k (name ∷ names) =
    if set k then name ∷ names_in set (k + 1) names else names_in set (k + 1) names
