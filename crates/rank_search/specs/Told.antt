-- The answer of a search for the best networks: the networks with a ranked tree, whole or so far.
use Rattle.std.specs.Prelude.{ℕ, ◌-◌, ◌^◌, ◌<◌, Bool, false, List, length, Option}
use Rattle.rank_check.specs.problem_rules.Each.{Each}
use Rattle.rank_check.specs.problem_rules.Problem.{Problem}
use Rattle.rank_check.specs.tree_rules.Claim.{Network, CostOver}
use Rattle.rank_check.specs.tree_rules.Lean.{IsLean}
use Rattle.rank_check.specs.tree_rules.Stops.{IsSpent}
use Rattle.rank_check.specs.tree_rules.Accepted.{Tree, first_node}
use Rattle.rank_check.specs.rank_rules.Networks.{to_undercut}
use Rattle.rank_check.specs.rank_rules.Ranked.{Proves}
use Rattle.rank_check.specs.tree_rules.Known.{KnowsTree}
use Rattle.rank_check.specs.rank_rules.Marked.{Mark, marked}
use Rattle.rank_check.specs.rank_rules.Text.{IsCounted}
use Rattle.rank_check.specs.Known.{KnowsNetwork}
use Rattle.rank_check.specs.tree_rules.Proved.{IsBelowLimit}
use Rattle.rank_check.specs.rank_rules.Leaf.{IsOpenLeaf}

-- So many networks were asked for, and these with the tree and its marks are a ranked tree, whole
-- or partial, and lean for what is claimed. All numbers are the problem's. A list of alternatives
-- is distinct.
pub record IsTellingOf (distinct partial : Bool) (p : Problem) (count : ℕ)
    (claimed : Option CostOver) (ws : List Network) (tree : Tree) (marks : List Mark) : Type
    0 where
  pub proves : Proves partial p
      (record { count = count; distinct = distinct; networks = ws; tree = marked marks tree })
  pub lean : IsLean p IsOpenLeaf claimed first_node (marked marks tree)
  pub counted : IsCounted count distinct ws tree marks
  pub of_networks : Each (KnowsNetwork p) ws
  pub of_tree : KnowsTree p tree
  pub few : length tree < 2 ^ 32 - 1

-- the leaf at the place is branched next, into so many children, for which the budget does not last
pub record IsSpentOf (p : Problem) (claimed : Option CostOver) (tree : Tree) (marks : List Mark)
    (place options budget : ℕ) : Type 0 where
  pub spent : IsSpent p IsOpenLeaf claimed first_node (marked marks tree) place options budget
  pub below_limit : IsBelowLimit p budget

-- in a ranking what is claimed is the cost of the last network, if as many are there as were asked
-- for
abbrev pub IsTelling : Bool → Problem → ℕ → List Network → Tree → List Mark → Type 0
IsTelling partial p count ws tree marks =
    IsTellingOf false partial p count (to_undercut count ws) ws tree marks

abbrev pub IsSpentTelling : Problem → ℕ → List Network → Tree → List Mark → ℕ → ℕ → ℕ → Type 0
IsSpentTelling p count ws tree marks place options budget =
    IsSpentOf p (to_undercut count ws) tree marks place options budget
