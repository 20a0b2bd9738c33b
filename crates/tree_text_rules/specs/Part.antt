-- Parts: what a run found from a node of its own.
use Rattle.std.specs.Prelude.{ℕ, List}
use Rattle.edit_rules.specs.number_sets.Sets.{has, Avoids}
use Rattle.tree_rules.specs.pns_rules.Nodes.{Node}
use Rattle.tree_rules.specs.Claim.{Claim}
use Rattle.tree_rules.specs.Accepted.{Tree}
use Rattle.tree_rules.specs.Tail.{Tail}

-- the units that are taken in and those that are left out at the node from which the run began,
-- what it claims, its tree, and how it ended
pub record Part : Type 0 where
  pub inside : List ℕ
  pub outside : List ℕ
  pub claim : Claim
  pub tree : Tree
  pub tail : Tail

abbrev pub start_of : Part → Node
start_of part = record { inside = has part.inside; outside = has part.outside }

-- what the type of parts keeps: no unit is both taken in and left out
abbrev pub IsApart : List ℕ → List ℕ → Type 0
IsApart inside outside = Avoids (has inside) (has outside)
