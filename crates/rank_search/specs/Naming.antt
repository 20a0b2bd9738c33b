-- The tree of a search as a ranked one: a bounded leaf that has a name names a network by its
-- number, and is in the ordinary tree an open leaf with a mark.
use Rattle.std.specs.Prelude.{◌≡◌, ℕ, suc, ◌<◌, List, [], ◌∷◌, ◌++◌, map, length, slice_set}
use Rattle.std.specs.Prelude.{replicate, get_or, Option, Some, None}
use Rattle.std.specs.List.{slice_get}
use Rattle.rank_check.specs.tree_rules.Tree.{End, branch, leaf, TreeNode}
use Rattle.rank_check.specs.tree_rules.Leaf.{Leaf, dead, clash, refuted, bounded, charged, untried}
use Rattle.rank_check.specs.tree_rules.Accepted.{Tree}
use Rattle.rank_check.specs.rank_rules.declared.naming.Naming.{Naming}
use Rattle.rank_check.specs.rank_rules.Marked.{Mark}
use Rattle.rank_check.specs.declared.mark.Mark as marks
use Rattle.rank_check.specs.View.{mark_of}
use Rattle.abb_search.specs.search_tree.declared.shut.Shut.{Shut}
use Rattle.abb_search.specs.search_tree.Cells.{Cell}
use Rattle.abb_search.specs.search_tree.Preorder.{IsPreorder, tree_of}
use Rattle.abb_search.specs.search_tree.Shut.{shut_cells}
use Rattle.rank_search.specs.Found.{FoundAt}

-- ---- names

-- for each leaf by its number a network, by its number, counted from 1
abbrev pub Names : Type 0
Names = List (Option ℕ)

-- the networks were found at leaves below this number
abbrev pub AreWithin : ℕ → List FoundAt → Type 0
AreWithin n [] = Unit {0}
AreWithin n (f ∷ fs) = (f.leaf < n) × AreWithin n fs

-- the networks of the list are those of the leaves at which they were found, numbered from k on
abbrev pub names_with : Names → ℕ → List FoundAt → Names
names_with names k [] = names
names_with names k (f ∷ fs) = names_with (slice_set names f.leaf (Some k)) (suc k) fs

abbrev pub names_of : ℕ → List FoundAt → Names
names_of n fs = names_with (replicate n None) 1 fs

abbrev pub name_at : Names → ℕ → Option ℕ
name_at names i = get_or names i None

-- the names of the cells of these numbers
abbrev pub names_at : Names → List ℕ → Names
names_at names order = map (name_at names) order

-- ---- ends with a name

-- a bounded leaf that has a name becomes an open leaf
abbrev pub opened_end : Option ℕ → End Leaf → End Leaf
opened_end None e = e
opened_end (Some k) (branch w) = branch w
opened_end (Some k) (leaf (dead x)) = leaf (dead x)
opened_end (Some k) (leaf (clash x)) = leaf (clash x)
opened_end (Some k) (leaf (refuted ys)) = leaf (refuted ys)
opened_end (Some k) (leaf (bounded d ys)) = leaf (untried None)
opened_end (Some k) (leaf (charged h)) = leaf (charged h)
opened_end (Some k) (leaf (untried low)) = leaf (untried low)

-- It has a mark with its network, how it names it, and its multipliers. An open leaf is marked as
-- open, and no other end has a mark.
abbrev pub marks_at : Naming → Option ℕ → End Leaf → List Mark
marks_at way name (branch w) = []
marks_at way name (leaf (dead x)) = []
marks_at way name (leaf (clash x)) = []
marks_at way name (leaf (refuted ys)) = []
marks_at way None (leaf (bounded d ys)) = []
marks_at way (Some k) (leaf (bounded d ys)) =
    Some (record { way = way; network = k; d = d; ys = ys }) ∷ []
marks_at way name (leaf (charged h)) = []
marks_at way name (leaf (untried low)) = None ∷ []

abbrev pub opened_node : Option ℕ → TreeNode Leaf → TreeNode Leaf
opened_node name t = record { option = t.option; steps = t.steps; end = opened_end name t.end }

-- ---- trees with names

-- the tree, whose nodes have these names in order
abbrev pub opened : Names → Tree → Tree
opened [] ts = ts
opened (n ∷ ns) [] = []
opened (n ∷ ns) (t ∷ ts) = opened_node n t ∷ opened ns ts

abbrev pub marks_in : Naming → Names → Tree → List Mark
marks_in way [] ts = []
marks_in way (n ∷ ns) [] = []
marks_in way (n ∷ ns) (t ∷ ts) = marks_at way n t.end ++ marks_in way ns ts

-- the mark of the code that an end may have
abbrev pub marks_of : Option marks.Mark → List Mark
marks_of None = []
marks_of (Some m) = mark_of m ∷ []

-- ---- what a walk over the cells finds

-- The nodes are those of all cells in preorder. Their open leaves end with the items at their
-- numbers, and their named leaves are open leaves with these marks. The cell `wanted` is the node
-- `place` there.
pub record IsNamedTree (cells : List Cell) (way : Naming) (names : Names)
    (proofs : List (Option Shut)) (wanted : ℕ) (tree : Tree) (marks : List Mark)
    (place : ℕ) : Type 0 where
  pub order : List ℕ
  pub is_preorder : IsPreorder (shut_cells proofs cells) (0 ∷ []) order
  pub stands : slice_get order place ≡ Some wanted
  pub tree_is : tree ≡ opened (names_at names order) (tree_of (shut_cells proofs cells) order)
  pub marks_are : marks ≡ marks_in way (names_at names order)
      (tree_of (shut_cells proofs cells) order)
