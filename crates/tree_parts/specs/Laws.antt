-- Laws of the parts of a tree, each the contract of a public function of this crate.
use Rattle.std.specs.Prelude.{ℕ, List, [], ◌∷◌, ◌↔◌}
use Rattle.tree_text_laws.specs.problem_rules.Problem.{Problem}
use Rattle.tree_text_laws.specs.pns_rules.Shape.{Shape, shape_of}
use Rattle.tree_text_laws.specs.pns_rules.Nodes.{Node}
use Rattle.tree_text_laws.specs.tree_rules.Tree.{IsTree}
use Rattle.tree_text_laws.specs.tree_rules.Claim.{Claim}
use Rattle.tree_text_laws.specs.tree_rules.Accepted.{Tree, IsPartial}
use Rattle.tree_text_laws.specs.tree_text_rules.OpenLeaves.{OpenAt, open_leaves, IsAmong}
use Rattle.tree_text_laws.specs.tree_text_rules.OpenLeaves.{StandsOpen}
use Rattle.tree_text_laws.specs.tree_text_rules.Graft.{graft_at, claim_of_both}

-- ---- open leaves

-- the list has just the open leaves of a tree, each with its node
abbrev pub OpenLeavesStand : Type 0
OpenLeavesStand =
    (g : Shape) (n : Node) (tree : Tree) (l : OpenAt)
    → IsAmong l (open_leaves g (n ∷ []) tree 0) ↔ StandsOpen g (n ∷ []) tree l.number l.node

-- ---- grafts

-- A part of a partial tree for the node of an open leaf, in the leaf's place: one whole tree, which
-- proves the claim of both but for its open leaves.
abbrev pub GraftIsTree : Type 0
GraftIsTree = (g : Shape) (ns : List Node) (k : ℕ) (n : Node) (tree part : Tree)
    → StandsOpen g ns tree k n → IsTree tree → IsTree part → IsTree (graft_at k tree part)

abbrev pub GraftIsPartial : Type 0
GraftIsPartial =
    (p : Problem) (start n : Node) (claim other : Claim) (tree part : Tree) (k : ℕ)
    → IsTree tree → IsTree part → IsPartial p start claim tree → IsPartial p n other part
    → StandsOpen (shape_of p) (start ∷ []) tree k n
    → IsPartial p start (claim_of_both claim other (graft_at k tree part)) (graft_at k tree part)
