-- Trees whose leaves charge. A leaf that is refuted, or has a bound, charges its node by the same
-- multipliers, without covers.
use Rattle.std.specs.Prelude.{pos, [], map}
use Rattle.tree_rules.specs.Charged.{handed}
use Rattle.tree_rules.specs.Tree.{End, branch, leaf, TreeNode}
use Rattle.tree_rules.specs.Leaf.{Leaf, dead, clash, refuted, bounded, charged, untried}
use Rattle.tree_rules.specs.Accepted.{Tree}

abbrev pub recharged_leaf : Leaf → Leaf
recharged_leaf (dead x) = dead x
recharged_leaf (clash k) = clash k
recharged_leaf (refuted ys) = charged (handed (pos 0) ys [])
recharged_leaf (bounded d ys) = charged (handed d ys [])
recharged_leaf (charged h) = charged h
recharged_leaf (untried low) = untried low

abbrev pub recharged_end : End Leaf → End Leaf
recharged_end (branch w) = branch w
recharged_end (leaf l) = leaf (recharged_leaf l)

abbrev pub recharged_node : TreeNode Leaf → TreeNode Leaf
recharged_node t = record { option = t.option; steps = t.steps; end = recharged_end t.end }

abbrev pub recharged_tree : Tree → Tree
recharged_tree tree = map recharged_node tree
