-- What a search promises of a claim with a head and a tree.
use Rattle.std.specs.Prelude.{◌<◌, ◌-◌, ◌^◌, List, length}
use Rattle.flow_rules.specs.problem_rules.Problem.{Problem}
use Rattle.tree_rules.specs.Claim as claims
use Rattle.tree_rules.specs.Claim.{claimed_cost}
use Rattle.tree_rules.specs.Leaf.{IsUntried}
use Rattle.tree_rules.specs.Lean.{IsLean}
use Rattle.tree_rules.specs.Accepted.{Tree}
use Rattle.tree_rules.specs.Known.{KnowsClaim, KnowsTree}
use Rattle.tree_rules.specs.Head.{HeadLine}
use Rattle.tree_rules.specs.Headed.{head_node, IsAcceptedBy}
use Rattle.tree_rules.specs.HeadKnown.{KnowsHead}

-- a head and a tree that prove the claim, with numbers that the problem knows; the tree is lean
-- from the node that the head leaves
pub record IsProvedBy
    (p : Problem) (claim : claims.Claim) (head : List HeadLine) (tree : Tree) : Type 0 where
  pub accepted : IsAcceptedBy p claim head tree
  pub lean : IsLean p IsUntried (claimed_cost claim) (head_node p head) tree
  pub of_claim : KnowsClaim p claim
  pub of_head : KnowsHead p head
  pub of_tree : KnowsTree p tree
  pub few : length tree < 2 ^ 32 - 1
