-- A lean tree for a claim, with numbers that the problem knows. It need not prove the claim.
use Rattle.std.specs.Prelude.{◌<◌, ◌-◌, ◌^◌, length}
use Rattle.tree_parts.specs.problem_rules.Problem.{Problem}
use Rattle.tree_parts.specs.pns_rules.Nodes.{Node}
use Rattle.tree_parts.specs.tree_rules.Claim.{Claim, claimed_cost}
use Rattle.tree_parts.specs.tree_rules.Leaf.{IsUntried}
use Rattle.tree_parts.specs.tree_rules.Lean.{IsLean}
use Rattle.tree_parts.specs.tree_rules.Accepted.{Tree}
use Rattle.tree_parts.specs.tree_rules.Known.{KnowsClaim, KnowsTree}

pub record IsLeanFor (p : Problem) (start : Node) (claim : Claim) (tree : Tree) : Type 0 where
  pub lean : IsLean p IsUntried (claimed_cost claim) start tree
  pub of_claim : KnowsClaim p claim
  pub of_tree : KnowsTree p tree
  pub few : length tree < 2 ^ 32 - 1
