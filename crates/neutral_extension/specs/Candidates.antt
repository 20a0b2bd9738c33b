-- The makers of each material, with some units taken out.
use Rattle.std.specs.Prelude.{◌≡◌, ℕ, not, List, [], length, take, slice_index_or, ◌++◌}
use Rattle.std.specs.List.{prefix_len}
use Rattle.pgraph.specs.number_sets.Sets.{has, kept, minus, IsSet}
use Rattle.pgraph.specs.pns_rules.Shape.{Shape}

-- the makers of each material, and the units that are taken out, the last one last
pub record Candidates : Type 0 where
  pub makers : List (List ℕ)
  pub taken : List ℕ

-- the makers of x; none if there is no such material
abbrev pub makers_at : List (List ℕ) → ℕ → List ℕ
makers_at mk x = slice_index_or mk x []

-- the makers of x that are not taken out
abbrev pub left : Candidates → ℕ → List ℕ
left k x = kept (λ u. not (has k.taken u)) (makers_at k.makers x)

-- for each material of the graph the rising list of its makers
pub record AreMakersOf (g : Shape) (mk : List (List ℕ)) : Type 0 where
  pub count : length mk ≡ g.materials
  pub makes : (x u : ℕ) → has (makers_at mk x) u ≡ g.makes u x
  pub sets : (x : ℕ) → IsSet 128 (makers_at mk x)

-- the longest front of the list that is in the set
abbrev pub front_within : List ℕ → List ℕ → List ℕ
front_within set us = take (prefix_len (has set) us) us

-- that front, and then what else is in the set
abbrev pub led : List ℕ → List ℕ → List ℕ
led set us = front_within set us ++ minus set (front_within set us)

-- the one list is the front of the other
pub record IsFront (front all : List ℕ) : Type 0 where
  pub rest : List ℕ
  pub is : all ≡ front ++ rest
