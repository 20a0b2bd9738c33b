-- The tree of a search while it grows: a list of cells in the order of adding. The children of a
-- node are in a row, and come after their parent.
use Rattle.std.specs.Prelude.{◌≡◌, ℕ, ◌+◌, ◌<◌, ◌≤◌, ◌==◌, cond, List, [], ◌∷◌, length, get_or}
use Rattle.std.specs.Prelude.{None}
use Rattle.std.specs.List.{range_with_len}
use Rattle.tree_laws.specs.pns_rules.Nodes as rules
use Rattle.branch_tree.specs.pgraph.View.{node_of}
use Rattle.branch_tree.specs.unit_sets.declared.node.Node.{Node}
use Rattle.tree_laws.specs.tree_rules.Ways.{width}
use Rattle.tree_laws.specs.tree_rules.Tree.{End, branch, leaf}
use Rattle.tree_laws.specs.tree_rules.Leaf.{Leaf, untried}

-- A node of the tree: its option, its steps, the node that these leave, the number of its first
-- child if it is branched, its end, and the key under which a search stores its data if the node is
-- an open leaf.
pub record Cell : Type 0 where
  pub option : List ℕ
  pub steps : List rules.Step
  pub node : Node
  pub first : ℕ
  pub end : End Leaf
  pub key : ℕ

abbrev pub no_cell : Cell
no_cell =
    record {
      option = [];
      steps = [];
      node = record { inside = []; outside = [] };
      first = 0;
      end =
          leaf (untried None);
      key = 0;
    }

-- the node in the words of the rules
abbrev pub place_of : Cell → rules.Node
place_of c = node_of c.node

abbrev pub cell_at : List Cell → ℕ → Cell
cell_at cells i = get_or cells i no_cell

-- the numbers of the children
abbrev pub numbers_below : ℕ → End Leaf → List ℕ
numbers_below first (branch w) = range_with_len first (width w)
numbers_below first (leaf l) = []

abbrev pub children_at : List Cell → ℕ → List ℕ
children_at cells i = numbers_below (cell_at cells i).first (cell_at cells i).end

-- how often a number is in a list
abbrev pub times : ℕ → List ℕ → ℕ
times j [] = 0
times j (i ∷ is) = cond (i == j) 1 0 + times j is

-- the children come after their parent i, which has some, and are among n cells
abbrev pub AreBehind : ℕ → ℕ → ℕ → End Leaf → Type 0
AreBehind n i first (branch w) = (0 < width w) × (i < first) × (first + width w ≤ n)
AreBehind n i first (leaf l) = Unit {0}

-- q is the one parent of j, once
pub record IsParentOf (cells : List Cell) (q j : ℕ) : Type 0 where
  pub before : q < j
  pub once : (v : ℕ) → v < length cells → times j (children_at cells v) ≡ cond (v == q) 1 0

-- the cells are one tree: the first is the root, and each other has one parent
pub record IsLinked (cells : List Cell) : Type 0 where
  pub some : 0 < length cells
  pub behind : (i : ℕ) → i < length cells
      → AreBehind (length cells) i (cell_at cells i).first (cell_at cells i).end
  pub parent : (j : ℕ) → 0 < j → j < length cells → (q : ℕ) × IsParentOf cells q j
