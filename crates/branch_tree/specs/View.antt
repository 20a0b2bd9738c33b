-- Ends, claims and tails of the code, as the rules speak of them.
use Rattle.tree_rules.specs.Ways as ways
use Rattle.tree_rules.specs.Tree as trees
use Rattle.tree_rules.specs.Leaf as leaves
use Rattle.tree_rules.specs.Claim as claims
use Rattle.tree_rules.specs.Tail as tails
use Rattle.branch_tree.specs.declared.end.End.{End}
use Rattle.branch_tree.specs.declared.end.End.TheVariants.{Dead, Clash, Refuted, Bound, Charge}
use Rattle.branch_tree.specs.declared.end.End.TheVariants.{Branch, Either, Open}
use Rattle.branch_tree.specs.declared.claim.Claim.{Claim}
use Rattle.branch_tree.specs.declared.claim.Claim.TheVariants.{Network, Infeasible, Unknown}
use Rattle.branch_tree.specs.declared.tail.Tail.{Tail}
use Rattle.branch_tree.specs.declared.tail.Tail.TheVariants.{Whole, Spent, Past}

abbrev pub end_of : End → trees.End leaves.Leaf
end_of (Dead x) = trees.leaf (leaves.dead x)
end_of (Clash k) = trees.leaf (leaves.clash k)
end_of (Refuted ys) = trees.leaf (leaves.refuted ys)
end_of (Bound s) = trees.leaf (leaves.bounded s.d s.ys)
end_of (Charge s covers) =
    trees.leaf (leaves.charged (record { d = s.d; ys = s.ys; covers = covers }))
end_of (Branch x c) = trees.branch (ways.at_material x c)
end_of (Either u) = trees.branch (ways.either u)
end_of (Open low) = trees.leaf (leaves.untried low)

abbrev pub claim_of : Claim → claims.Claim
claim_of (Network w) = claims.network w
claim_of Infeasible = claims.infeasible
claim_of Unknown = claims.unknown

abbrev pub tail_of : Tail → tails.Tail
tail_of Whole = tails.whole
tail_of (Spent next options) = tails.spent next options
tail_of (Past node nonbasic place) = tails.past node nonbasic place
