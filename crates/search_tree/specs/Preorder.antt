-- The cells of a growing tree in preorder, and the branch tree that they make.
use Rattle.std.specs.Prelude.{◌≡◌, ℕ, List, [], ◌∷◌, ◌++◌, map, Some}
use Rattle.std.specs.List.{slice_get}
use Rattle.tree_laws.specs.tree_rules.Tree.{End, branch, leaf, TreeNode}
use Rattle.tree_laws.specs.tree_rules.Leaf.{Leaf}
use Rattle.tree_laws.specs.tree_rules.Accepted.{Tree}
use Rattle.search_tree.specs.Cells.{Cell, cell_at, children_at}

-- the numbers `order` are those of the subtrees of the cells `is`, one subtree after the other,
-- each in preorder
abbrev pub IsPreorder : List Cell → List ℕ → List ℕ → Type 0
IsPreorder cells [] [] = Unit {0}
IsPreorder cells [] (k ∷ ks) = ⊥
IsPreorder cells (i ∷ is) [] = ⊥
IsPreorder cells (i ∷ is) (k ∷ ks) = (k ≡ i) × IsPreorder cells (children_at cells i ++ is) ks

abbrev pub node_at : List Cell → ℕ → TreeNode Leaf
node_at cells i =
    record {
      option = (cell_at cells i).option;
      steps = (cell_at cells i).steps;
      end =
          (cell_at cells i).end;
    }

-- the branch tree of the cells of these numbers
abbrev pub tree_of : List Cell → List ℕ → Tree
tree_of cells order = map (node_at cells) order

-- ---- leaves that are mapped to others

-- the end, with its leaf mapped by f
abbrev pub told_end : {L : Type 0} → (Leaf → L) → End Leaf → End L
told_end f (branch w) = branch w
told_end f (leaf l) = leaf (f l)

-- the node of a cell, with its leaf mapped by f of its number
abbrev pub told_at : {L : Type 0} → (ℕ → Leaf → L) → List Cell → ℕ → TreeNode L
told_at f cells i =
    record {
      option = (cell_at cells i).option;
      steps = (cell_at cells i).steps;
      end =
          told_end (f i) (cell_at cells i).end;
    }

abbrev pub told_tree : {L : Type 0} → (ℕ → Leaf → L) → List Cell → List ℕ → List (TreeNode L)
told_tree f cells order = map (told_at f cells) order

-- ---- what a walk finds

-- the nodes are those of all cells in preorder, whose numbers are `order`, and the cell `wanted` is
-- the node `place` there
pub record IsTreeIn (cells : List Cell) (wanted : ℕ) (order : List ℕ) (nodes : Tree)
    (place : ℕ) : Type 0 where
  pub is_preorder : IsPreorder cells (0 ∷ []) order
  pub nodes_are : nodes ≡ tree_of cells order
  pub stands : slice_get order place ≡ Some wanted

-- this holds for some order
pub record IsTreeOf (cells : List Cell) (wanted : ℕ) (nodes : Tree) (place : ℕ) : Type 0 where
  pub order : List ℕ
  pub is_preorder : IsPreorder cells (0 ∷ []) order
  pub nodes_are : nodes ≡ tree_of cells order
  pub stands : slice_get order place ≡ Some wanted
