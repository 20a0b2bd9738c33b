-- A ranked tree as an ordinary one together with marks. Each leaf that names a network becomes an
-- open leaf, and the marks say in preorder what each open leaf stands for. An open leaf without a
-- mark is open.
use Rattle.std.specs.Prelude.{ℕ, ℤ, List, [], ◌∷◌, Option, Some, None}
use Rattle.tree_text_rules.specs.tree_rules.Tree as trees
use Rattle.tree_text_rules.specs.tree_rules.Leaf as leaves
use Rattle.tree_text_rules.specs.tree_rules.Accepted as plain
use Rattle.rank_rules.specs.declared.naming.Naming.{Naming}
use Rattle.rank_rules.specs.Leaf as ranks
use Rattle.rank_rules.specs.Ranked as ranked

-- how a leaf names a network, its number, counted from 1, and a scale and multipliers
pub record Name : Type 0 where
  pub way : Naming
  pub network : ℕ
  pub d : ℤ
  pub ys : List ℤ

-- `None` if the leaf is open
abbrev pub Mark : Type 0
Mark = Option Name

-- the leaf that an open one with this bound stands for
abbrev pub marked_leaf : Option leaves.Scaled → Mark → ranks.Leaf
marked_leaf low None = ranks.plain (leaves.untried low)
marked_leaf low (Some m) = ranks.named m.way m.network m.d m.ys

abbrev pub first_mark : List Mark → Mark
first_mark [] = None
first_mark (m ∷ ms) = m

abbrev pub other_marks : List Mark → List Mark
other_marks [] = []
other_marks (m ∷ ms) = ms

-- the end in the ranked tree, if the first mark is that of the first open leaf
abbrev pub marked_end : List Mark → trees.End leaves.Leaf → trees.End ranks.Leaf
marked_end ms (trees.branch w) = trees.branch w
marked_end ms (trees.leaf (leaves.dead x)) = trees.leaf (ranks.plain (leaves.dead x))
marked_end ms (trees.leaf (leaves.clash k)) = trees.leaf (ranks.plain (leaves.clash k))
marked_end ms (trees.leaf (leaves.refuted ys)) = trees.leaf (ranks.plain (leaves.refuted ys))
marked_end ms (trees.leaf (leaves.bounded d ys)) = trees.leaf (ranks.plain (leaves.bounded d ys))
marked_end ms (trees.leaf (leaves.charged h)) = trees.leaf (ranks.plain (leaves.charged h))
marked_end ms (trees.leaf (leaves.untried low)) = trees.leaf (marked_leaf low (first_mark ms))

-- the marks of the open leaves after the end
abbrev pub marks_behind : List Mark → trees.End leaves.Leaf → List Mark
marks_behind ms (trees.branch w) = ms
marks_behind ms (trees.leaf (leaves.dead x)) = ms
marks_behind ms (trees.leaf (leaves.clash k)) = ms
marks_behind ms (trees.leaf (leaves.refuted ys)) = ms
marks_behind ms (trees.leaf (leaves.bounded d ys)) = ms
marks_behind ms (trees.leaf (leaves.charged h)) = ms
marks_behind ms (trees.leaf (leaves.untried low)) = other_marks ms

abbrev pub marked_node : List Mark → trees.TreeNode leaves.Leaf → trees.TreeNode ranks.Leaf
marked_node ms t = record { option = t.option; steps = t.steps; end = marked_end ms t.end }

-- the ranked tree
abbrev pub marked : List Mark → plain.Tree → ranked.Tree
marked ms [] = []
marked ms (t ∷ ts) = marked_node ms t ∷ marked (marks_behind ms t.end) ts
