-- The lower bound of a ranking that is not finished: that of an ordinary tree, which is to prove
-- its best network. In this tree a leaf that names a network is open, with its own bound.
use Rattle.std.specs.Prelude.{◌≡◌, ℕ, Bool, List, [], ◌∷◌, Option, Some, None}
use Rattle.rank_rules.specs.problem_rules.Problem.{Problem}
use Rattle.rank_rules.specs.pns_rules.Shape.{shape_of}
use Rattle.rank_rules.specs.pns_rules.Structure.{IsStructure, IsAllowed}
use Rattle.rank_rules.specs.tree_rules.Tree.{TreeNode, End, branch, leaf}
use Rattle.rank_rules.specs.tree_rules.Claim.{Claim, Network, network, unknown}
use Rattle.rank_rules.specs.tree_rules.Leaf as leaves
use Rattle.rank_rules.specs.tree_rules.Accepted.{Tree, first_node, IsPartial}
use Rattle.rank_rules.specs.tree_rules.Costs.{CostsEnough}
use Rattle.rank_rules.specs.tree_rules.Lower.{lower_bound}
use Rattle.rank_rules.specs.Leaf as ranks
use Rattle.rank_rules.specs.Ranked as ranked
use Rattle.rank_rules.specs.Ranked.{Ranking}
use Rattle.report_rules.specs.declared.lower_bound.LowerBound.{LowerBound}
use Rattle.report_rules.specs.Verdict.{cost_of, known_cost}

-- ---- a ranking as a tree of a claim

abbrev pub plain_leaf : ranks.Leaf → leaves.Leaf
plain_leaf (ranks.plain l) = l
plain_leaf (ranks.named way k d ys) = leaves.untried (Some (record { d = d; ys = ys }))

abbrev pub plain_end : End ranks.Leaf → End leaves.Leaf
plain_end (branch w) = branch w
plain_end (leaf l) = leaf (plain_leaf l)

abbrev pub plain_node : TreeNode ranks.Leaf → TreeNode leaves.Leaf
plain_node t = record { option = t.option; steps = t.steps; end = plain_end t.end }

abbrev pub plain_tree : ranked.Tree → Tree
plain_tree [] = []
plain_tree (t ∷ ts) = plain_node t ∷ plain_tree ts

-- the first network, if there is one
abbrev pub best_claim : List Network → Claim
best_claim [] = unknown
best_claim (w ∷ ws) = network w

-- ---- lower bounds

-- The lower bound of a tree of a claim, if it proves the claim but for its open leaves, and if the
-- bound is known. None is right only if one of these fails.
abbrev pub IsLowerBound : Problem → Claim → Tree → Option LowerBound → Type 0
IsLowerBound p claim tree None =
    IsPartial p first_node claim tree
    → cost_of None ≡ known_cost (lower_bound p first_node claim tree)
IsLowerBound p claim tree (Some b) =
    IsPartial p first_node claim tree
    × (cost_of (Some b) ≡ known_cost (lower_bound p first_node claim tree))

-- with any flows each clash-free solution structure costs at least the lower bound, if it is known
abbrev pub AllCostEnough : Problem → Option LowerBound → Type 0
AllCostEnough p None = Unit {0}
AllCostEnough p (Some b) = (s : ℕ → Bool) → IsStructure (shape_of p) s → IsAllowed (shape_of p) s
    → CostsEnough p (cost_of (Some b)) s

abbrev pub IsRankLow : Problem → Ranking → Option LowerBound → Type 0
IsRankLow p r low = IsLowerBound p (best_claim r.networks) (plain_tree r.tree) low
