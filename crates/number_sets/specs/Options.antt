-- The sets between a base and the base with free numbers. They are in numeric order: number u
-- counts 2 ^ u.
use Rattle.std.specs.Prelude.{◌≡◌, ℕ, ◌<◌, ◌≤◌, true, ◌||◌, List, [], ◌∷◌, ◌⊎◌}
use Rattle.number_sets.specs.Sets.{has, IsRising, IsWithin, mask_of, union}

-- a set that has all numbers of the base, and else only free ones
pub record IsBetween (base free t : List ℕ) : Type 0 where
  pub rising : IsRising t
  pub has_base : IsWithin (has base) (has t)
  pub within : (u : ℕ) → has t u ≡ true → (has base u || has free u) ≡ true

-- such a set that is not empty
pub record IsOption (base free t : List ℕ) : Type 0 where
  pub between : IsBetween base free t
  pub some : t ≡ [] → ⊥

-- r is the least option
pub record IsFirstOption (base free r : List ℕ) : Type 0 where
  pub option : IsOption base free r
  pub least : (t : List ℕ) → IsOption base free t → mask_of r ≤ mask_of t

-- r is the least set after s
pub record IsNextOption (base free s r : List ℕ) : Type 0 where
  pub between : IsBetween base free r
  pub greater : mask_of s < mask_of r
  pub least : (t : List ℕ) → IsBetween base free t → mask_of s < mask_of t → mask_of r ≤ mask_of t

-- no set comes after s
abbrev pub IsLastOption : List ℕ → List ℕ → List ℕ → Type 0
IsLastOption base free s = (t : List ℕ) → IsBetween base free t → mask_of t ≤ mask_of s

-- each set, followed by the same set with u
abbrev pub without_and_with : ℕ → List (List ℕ) → List (List ℕ)
without_and_with u [] = []
without_and_with u (t ∷ ts) = t ∷ (u ∷ t) ∷ without_and_with u ts

-- the subsets of a rising list in numeric order: its least number changes fastest
abbrev pub subsets : List ℕ → List (List ℕ)
subsets [] = [] ∷ []
subsets (u ∷ us) = without_and_with u (subsets us)

-- each set united with the base
abbrev pub with_base : List ℕ → List (List ℕ) → List (List ℕ)
with_base base [] = []
with_base base (t ∷ ts) = union base t ∷ with_base base ts

abbrev pub non_empty : List (List ℕ) → List (List ℕ)
non_empty [] = []
non_empty ([] ∷ ts) = non_empty ts
non_empty ((u ∷ us) ∷ ts) = (u ∷ us) ∷ non_empty ts

-- all options, in numeric order
abbrev pub all_options : List ℕ → List ℕ → List (List ℕ)
all_options base free = non_empty (with_base base (subsets free))

-- t is in the list
abbrev pub IsIn : List ℕ → List (List ℕ) → Type 0
IsIn t [] = ⊥
IsIn t (s ∷ ss) = (t ≡ s) ⊎ IsIn t ss

-- the number of t is below that of each
abbrev pub IsBelowEach : List ℕ → List (List ℕ) → Type 0
IsBelowEach t [] = Unit {0}
IsBelowEach t (s ∷ ss) = (mask_of t < mask_of s) × IsBelowEach t ss

-- each comes before all that follow it, in numeric order
abbrev pub IsAscending : List (List ℕ) → Type 0
IsAscending [] = Unit {0}
IsAscending (t ∷ ts) = IsBelowEach t ts × IsAscending ts
