-- The laws of capped plants, each the contract of a public function of this crate.
use Rattle.std.specs.Prelude.{◌≡◌, length}
use Rattle.tree_rules.specs.problem_rules.Problem.{Problem}
use Rattle.tree_rules.specs.problem_rules.Validity.{IsValid}
use Rattle.tree_rules.specs.pns_rules.Shape.{shape_of}
use Rattle.tree_rules.specs.pns_rules.Nodes.{Node}
use Rattle.tree_rules.specs.Tree.{IsTree}
use Rattle.tree_rules.specs.Claim.{Claim, claimed_cost}
use Rattle.tree_rules.specs.Leaf.{IsUntried}
use Rattle.tree_rules.specs.Lean.{IsLean}
use Rattle.tree_rules.specs.Accepted.{Tree, IsAccepted}
use Rattle.tree_rules.specs.Known.{KnowsClaim, KnowsTree}
use Rattle.tree_laws.specs.Capped.{IsCapped}
use Rattle.tree_laws.specs.Recharged.{recharged_tree}

abbrev pub CappedShape : Type 0
CappedShape = (p q : Problem) → IsCapped p q → shape_of q ≡ shape_of p

abbrev pub CappedClaim : Type 0
CappedClaim =
    (p q : Problem) → IsCapped p q → (claim : Claim) → KnowsClaim q claim → KnowsClaim p claim

-- A tree that proves the claim for the capped plant has no open leaf. If it is lean there, it is
-- lean for the plant.
abbrev pub RechargedIsLean : Type 0
RechargedIsLean =
    (p q : Problem) → IsValid p → IsValid q → IsCapped p q
    → (start : Node) (claim : Claim) (tree : Tree) → IsAccepted q start claim tree
    → IsLean q IsUntried (claimed_cost claim) start tree
    → IsLean p IsUntried (claimed_cost claim) start (recharged_tree tree)

abbrev pub RechargedKnows : Type 0
RechargedKnows =
    (p q : Problem) → IsCapped p q → (tree : Tree) → KnowsTree q tree
    → KnowsTree p (recharged_tree tree)

abbrev pub RechargedIsTree : Type 0
RechargedIsTree = (tree : Tree) → IsTree tree → IsTree (recharged_tree tree)

abbrev pub RechargedIsAsLong : Type 0
RechargedIsAsLong = (tree : Tree) → length (recharged_tree tree) ≡ length tree
