-- The cells of a growing tree at the nodes of the search, each by itself: its steps pass and leave
-- its node, a branched one has a child for each option, and P says which leaves may be there.
use Rattle.std.specs.Prelude.{◌≡◌, ℕ, ◌+◌, ◌<◌, List, [], length, map}
use Rattle.std.specs.List.{range_with_len}
use Rattle.tree_laws.specs.pns_rules.Shape.{Shape}
use Rattle.tree_laws.specs.pns_rules.Nodes.{Node}
use Rattle.tree_laws.specs.tree_rules.Ways.{Way, width, MayBranch, options_at, child_at}
use Rattle.tree_laws.specs.tree_rules.Tree.{End, branch, leaf, StepsPass, after_all}
use Rattle.tree_laws.specs.tree_rules.Leaf.{Leaf}
use Rattle.search_tree.specs.Cells.{Cell, place_of, cell_at}

-- the cell's steps are possible from the node, each in turn, and leave the cell's node
pub record Follows (g : Shape) (start : Node) (c : Cell) : Type 0 where
  pub pass : StepsPass g start c.steps
  pub leave : after_all g start c.steps ≡ place_of c

-- the node is branched in this way, and its children begin with the cell `first`
pub record IsBranch (g : Shape) (cells : List Cell) (n : Node) (first : ℕ) (w : Way) : Type 0 where
  pub may : MayBranch g n w
  pub options_are : map (λ j. (cell_at cells j).option) (range_with_len first (width w))
      ≡ options_at g n w
  pub follow : (k : ℕ) → k < width w
      → Follows g (child_at g n w (cell_at cells (first + k)).option) (cell_at cells (first + k))

abbrev pub EndFits : Shape → (Node → Leaf → Type 0) → List Cell → Node → ℕ → End Leaf → Type 0
EndFits g P cells n first (branch w) = IsBranch g cells n first w
EndFits g P cells n first (leaf l) = P n l

pub record Fits (g : Shape) (P : Node → Leaf → Type 0) (start : Node) (cells : List Cell) : Type
    0 where
  pub no_option : (cell_at cells 0).option ≡ []
  pub root : Follows g start (cell_at cells 0)
  pub ends : (i : ℕ) → i < length cells
      → EndFits g P cells (place_of (cell_at cells i)) (cell_at cells i).first (cell_at cells i).end
