-- Trees that are accepted for a claim, whole or partial. Here no list has to be one whole tree
-- (`IsTree`): a text reads as one whole tree or has a fault, and in code the type of trees keeps
-- it.
use Rattle.std.specs.Prelude.{ℕ, Bool, true, false, List, [], ◌∷◌}
use Rattle.flow_rules.specs.problem_rules.Problem.{Problem}
use Rattle.flow_rules.specs.pns_rules.Shape.{shape_of}
use Rattle.flow_rules.specs.pns_rules.Nodes.{Node}
use Rattle.tree_rules.specs.declared.why.Why.{Why}
use Rattle.tree_rules.specs.Tree.{TreeNode, Pass}
use Rattle.tree_rules.specs.Fault.{IsFirstFault}
use Rattle.tree_rules.specs.Claim.{Claim, claimed_cost, ClaimPasses}
use Rattle.tree_rules.specs.Leaf.{Leaf, LeafPasses, LeafFails}

abbrev pub Tree : Type 0
Tree = List (TreeNode Leaf)

-- no unit is taken in and none left out: the search of a whole problem starts here
abbrev pub first_node : Node
first_node = record { inside = λ u. false; outside = λ u. false }

-- the claim passes, and the tree passes from the start; in a partial tree leaves may be open, and
-- nothing claimed
pub record Proves (partial : Bool) (p : Problem) (start : Node) (claim : Claim) (tree : Tree) : Type
    0 where
  pub claimed : ClaimPasses partial p claim
  pub passes : Pass (shape_of p) (LeafPasses partial p (claimed_cost claim)) (start ∷ []) tree

-- the tree proves the claim
abbrev pub IsAccepted : Problem → Node → Claim → Tree → Type 0
IsAccepted = Proves false

-- the tree proves the claim but for its open leaves; if no cost is claimed it has no bounded leaf
abbrev pub IsPartial : Problem → Node → Claim → Tree → Type 0
IsPartial = Proves true

-- node k is the first that fails, for the cause
abbrev pub NodeIsFault : Bool → Problem → Node → Claim → Tree → ℕ → Why → Type 0
NodeIsFault partial p start claim tree k why =
    IsFirstFault (shape_of p) (LeafPasses partial p (claimed_cost claim))
    (LeafFails partial p (claimed_cost claim)) (start ∷ []) tree k why
