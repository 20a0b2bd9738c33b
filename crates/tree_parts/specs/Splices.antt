-- Several parts in the places of open leaves of one tree. A place is that of the leaf in the tree
-- itself. So the parts are put in from the last place on: a part moves no node before it.
use Rattle.std.specs.Prelude.{◌<◌, ℕ, true, List, [], ◌∷◌, Option, if◌then◌else◌}
use Rattle.tree_text_laws.specs.problem_rules.Problem.{Problem}
use Rattle.tree_text_laws.specs.pns_rules.Shape.{shape_of}
use Rattle.tree_text_laws.specs.pns_rules.Nodes.{Node}
use Rattle.tree_text_laws.specs.tree_rules.Tree.{IsTree, Pass}
use Rattle.tree_text_laws.specs.tree_rules.Claim.{CostOver, Claim, network, infeasible, unknown}
use Rattle.tree_text_laws.specs.tree_rules.Leaf.{LeafPasses}
use Rattle.tree_text_laws.specs.tree_rules.Accepted.{Tree}
use Rattle.tree_text_laws.specs.tree_text_rules.Graft.{graft_at, cheaper, has_open}
use Rattle.tree_text_laws.specs.tree_text_rules.OpenLeaves.{StandsOpen}

-- the tree of a part, and the number of the leaf whose place it takes
pub record Splice : Type 0 where
  pub place : ℕ
  pub part : Tree

abbrev pub spliced : List Splice → Tree → Tree
spliced [] tree = tree
spliced (s ∷ ss) tree = graft_at s.place (spliced ss tree) s.part

-- all places are before k, or all are after it
abbrev pub AllBelow : ℕ → List Splice → Type 0
AllBelow k [] = Unit {0}
AllBelow k (s ∷ ss) = (s.place < k) × AllBelow k ss

abbrev pub AllAbove : ℕ → List Splice → Type 0
AllAbove k [] = Unit {0}
AllAbove k (s ∷ ss) = (k < s.place) × AllAbove k ss

-- the places rise
abbrev pub AreRising : List Splice → Type 0
AreRising [] = Unit {0}
AreRising (s ∷ ss) = AllAbove s.place ss × AreRising ss

-- the place is that of an open leaf, and the part is one whole tree that passes from the leaf's
-- node, for some claimed cost
pub record IsPut (p : Problem) (start : Node) (tree : Tree) (s : Splice) : Type 0 where
  pub node : Node
  pub claimed : Option CostOver
  pub stands : StandsOpen (shape_of p) (start ∷ []) tree s.place node
  pub whole : IsTree s.part
  pub passes : Pass (shape_of p) (LeafPasses true p claimed) (node ∷ []) s.part

abbrev pub ArePut : Problem → Node → Tree → List Splice → Type 0
ArePut p start tree [] = Unit {0}
ArePut p start tree (s ∷ ss) = IsPut p start tree s × ArePut p start tree ss

-- the network of the claim; if there is none, nothing is claimed while a leaf is open, and else
-- that there is none
abbrev pub settled : Claim → Tree → Claim
settled (network w) tree = network w
settled claim tree = if has_open tree then unknown else infeasible

-- the cheapest network that is claimed, the first if none is cheaper
abbrev pub cheapest : Claim → Claim → Claim
cheapest (network w) (network v) = network (cheaper w v)
cheapest (network w) claim = network w
cheapest claim (network v) = network v
cheapest claim other = claim
