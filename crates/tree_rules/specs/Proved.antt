-- What a search promises of a claim and its tree, and below which budget it may stop.
use Rattle.std.specs.Prelude.{ℕ, suc, ◌<◌, ◌-◌, ◌^◌, Bool, false, length}
use Rattle.flow_rules.specs.number_sets.Sets.{listed}
use Rattle.flow_rules.specs.problem_rules.Problem.{Problem}
use Rattle.flow_rules.specs.pns_rules.Shape.{shape_of}
use Rattle.flow_rules.specs.pns_rules.Structure.{IsUnion}
use Rattle.flow_rules.specs.pns_rules.Nodes.{Node}
use Rattle.tree_rules.specs.Claim as claims
use Rattle.tree_rules.specs.Claim.{claimed_cost}
use Rattle.tree_rules.specs.Leaf.{IsUntried}
use Rattle.tree_rules.specs.Lean.{IsLean}
use Rattle.tree_rules.specs.Accepted.{Tree, IsAccepted, IsPartial}
use Rattle.tree_rules.specs.Known.{KnowsClaim, KnowsTree}

-- a lean tree that proves the claim, with numbers that the problem knows
pub record IsProved (p : Problem) (start : Node) (claim : claims.Claim) (tree : Tree) : Type 0 where
  pub accepted : IsAccepted p start claim tree
  pub lean : IsLean p IsUntried (claimed_cost claim) start tree
  pub of_claim : KnowsClaim p claim
  pub of_tree : KnowsTree p tree
  pub few : length tree < 2 ^ 32 - 1

-- a lean tree that proves the claim but for its open leaves, with numbers that the problem knows
pub record IsStopped (p : Problem) (start : Node) (claim : claims.Claim) (tree : Tree) : Type
    0 where
  pub partial : IsPartial p start claim tree
  pub lean : IsLean p IsUntried (claimed_cost claim) start tree
  pub of_claim : KnowsClaim p claim
  pub of_tree : KnowsTree p tree
  pub few : length tree < 2 ^ 32 - 1

-- the budget is below twice the number of sets of units of the maximal structure
abbrev pub IsBelowLimit : Problem → ℕ → Type 0
IsBelowLimit p budget = (all : ℕ → Bool) → IsUnion (shape_of p) (λ u. false) all
    → budget < 2 ^ suc (length (listed (shape_of p).units all))
