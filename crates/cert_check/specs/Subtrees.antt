-- The ends of the subtrees of a tree, and the nodes that are left on a walk.
use Rattle.std.specs.Prelude.{◌≡◌, ℕ, ◌<◌, ◌≤◌, List, map, drop, length, get_or, reverse}
use Rattle.std.specs.List.{AllByRecursion}
use Rattle.tree_text_rules.specs.pns_rules.Shape.{Shape}
use Rattle.tree_text_rules.specs.pns_rules.Nodes as rules
use Rattle.tree_text_rules.specs.tree_rules.Tree.{skip}
use Rattle.tree_text_rules.specs.tree_rules.Accepted.{Tree}
use Rattle.charges.specs.unit_sets.declared.node.Node.{Node}
use Rattle.charges.specs.pgraph.View.{node_of}
use Rattle.cert_check.specs.Known.{KnowsInside}
use Rattle.cert_check.specs.declared.subtrees.Behind.{Behind}

-- the subtree of the node at i ends before e
pub record IsEnd (ts : Tree) (i e : ℕ) : Type 0 where
  pub behind : drop e ts ≡ skip 1 (drop i ts)
  pub within : e ≤ length ts
  pub later : i < e

-- the ends of the subtrees at all places from one on
abbrev pub AreEnds : Tree → List ℕ → ℕ → Type 0
AreEnds ts ends from = (i : ℕ) → from ≤ i → i < length ts → IsEnd ts i (get_or ends i 0)

-- the nodes from the place on
abbrev pub rest_of : Behind → Tree
rest_of b = drop b.from b.nodes.now

-- the place is within the list, and the ends are those of all its subtrees
pub record HasEnds (b : Behind) : Type 0 where
  pub same : length b.ends.now ≡ length b.nodes.now
  pub within : b.from ≤ length b.nodes.now
  pub are : AreEnds b.nodes.now b.ends.now 0

-- the last node of the stack comes first
abbrev pub stack_of : List Node → List rules.Node
stack_of ns = map node_of (reverse ns)

abbrev pub AllKnown : Shape → List rules.Node → Type 0
AllKnown g ns = AllByRecursion (KnowsInside g) ns
