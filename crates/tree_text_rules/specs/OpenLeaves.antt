-- The open leaves of a tree: where a search in parts goes on.
use Rattle.std.specs.Prelude.{◌≡◌, ◌⊎◌, ℕ, ◌+◌, List, [], ◌∷◌, ◌++◌, Option}
use Rattle.tree_rules.specs.pns_rules.Shape.{Shape}
use Rattle.tree_rules.specs.pns_rules.Nodes.{Node}
use Rattle.tree_rules.specs.Tree.{End, leaf, after_all, below, Stands}
use Rattle.tree_rules.specs.Leaf.{Leaf, Scaled, untried}
use Rattle.tree_rules.specs.Accepted.{Tree}

-- the number of an open leaf among all nodes in preorder, and the node after its steps
pub record OpenAt : Type 0 where
  pub number : ℕ
  pub node : Node

-- the node, if it ends in an open leaf
abbrev pub open_here : ℕ → Node → End Leaf → List OpenAt
open_here k n (leaf (untried low)) = record { number = k; node = n } ∷ []
open_here k n end = []

-- the end is that of an open leaf, with a bound or without
abbrev pub IsOpenEnd : End Leaf → Type 0
IsOpenEnd end = (low : Option Scaled) × (end ≡ leaf (untried low))

-- of the subtrees of the nodes node k is an open leaf at this node of the search
abbrev pub StandsOpen : Shape → List Node → Tree → ℕ → Node → Type 0
StandsOpen g ns ts k n = (low : Option Scaled) × Stands g ns ts k n (leaf (untried low))

-- of the subtrees of the nodes `ns` the open leaves in preorder, if the first node has number k
abbrev pub open_leaves : Shape → List Node → Tree → ℕ → List OpenAt
open_leaves g [] ts k = []
open_leaves g (n ∷ ns) [] k = []
open_leaves g (n ∷ ns) (t ∷ ts) k =
    open_here k (after_all g n t.steps) t.end
    ++ open_leaves g (below g (after_all g n t.steps) t.end ++ ns) ts (k + 1)

abbrev pub IsAmong : OpenAt → List OpenAt → Type 0
IsAmong l [] = ⊥
IsAmong l (m ∷ ms) = (l ≡ m) ⊎ IsAmong l ms
