-- A tree in which each leaf is open, and what the tree itself has at the number of such a leaf.
use Rattle.std.specs.Prelude.{ℤ, Bool, true, false, List, [], Option, Some, None, slice_get}
use Rattle.cert_check.specs.tree_rules.Tree.{End, branch, leaf, TreeNode}
use Rattle.cert_check.specs.tree_rules.Leaf.{Leaf, refuted, untried}
use Rattle.cert_check.specs.tree_rules.Accepted.{Tree}
use Rattle.cert_check.specs.tree_text_rules.OpenLeaves.{OpenAt}
use Rattle.report_amounts.specs.report_rules.Clash.{RefutedAt, refuted_here}

abbrev pub opened_end : End Leaf → End Leaf
opened_end (branch w) = branch w
opened_end (leaf l) = leaf (untried None)

abbrev pub opened_node : TreeNode Leaf → TreeNode Leaf
opened_node t = record { option = t.option; steps = t.steps; end = opened_end t.end }

-- whether a node ends in a refuted leaf, its multipliers, none if it does not, and the leaf
abbrev pub ends_refuted : End Leaf → Bool
ends_refuted (leaf (refuted ys)) = true
ends_refuted end = false

abbrev pub ys_of : End Leaf → List ℤ
ys_of (leaf (refuted ys)) = ys
ys_of end = []

abbrev pub is_refuted : Option (TreeNode Leaf) → Bool
is_refuted None = false
is_refuted (Some t) = ends_refuted t.end

abbrev pub ys_in : Option (TreeNode Leaf) → List ℤ
ys_in None = []
ys_in (Some t) = ys_of t.end

abbrev pub refuted_in : OpenAt → Option (TreeNode Leaf) → List RefutedAt
refuted_in o None = []
refuted_in o (Some t) = refuted_here o.number o.node t.end

-- the refuted leaf of a tree at the number of an open one
abbrev pub refuted_at : Tree → OpenAt → List RefutedAt
refuted_at tree o = refuted_in o (slice_get tree o.number)

-- the leaf with the multipliers of the tree
abbrev pub leaf_in : Tree → OpenAt → RefutedAt
leaf_in tree o = record { number = o.number; node = o.node; ys = ys_in (slice_get tree o.number) }
