-- A tree by the parents of its nodes. Nodes are numbered from 0 in the order of adding, and a
-- node's children are in that order too.
use Rattle.std.specs.Prelude.{◌≡◌, ℕ, suc, ◌<◌, ◌==◌, Bool, false, cond, List, [], ◌∷◌, ◌++◌}
use Rattle.std.specs.Prelude.{length, slice_index_or, Option, Some, None}
use Rattle.link_lists.specs.Lists.{following}

-- the parent of node i, or `None` if it is a root or no node
abbrev pub parent_of : List (Option ℕ) → ℕ → Option ℕ
parent_of ps i = slice_index_or ps i None

abbrev pub is_parent : Option ℕ → ℕ → Bool
is_parent None p = false
is_parent (Some q) p = q == p

-- the children of p, if the first node has the number k
abbrev pub children_from : ℕ → List (Option ℕ) → ℕ → List ℕ
children_from k [] p = []
children_from k (q ∷ ps) p =
    cond (is_parent q p) (k ∷ children_from (suc k) ps p) (children_from (suc k) ps p)

-- the children of p in the order of adding
abbrev pub children : List (Option ℕ) → ℕ → List ℕ
children ps p = children_from 0 ps p

abbrev pub next_child : List (Option ℕ) → ℕ → Option ℕ → Option ℕ
next_child ps i None = None
next_child ps i (Some p) = following i (children ps p)

-- the child that follows i among the children of its parent
abbrev pub sibling_after : List (Option ℕ) → ℕ → Option ℕ
sibling_after ps i = next_child ps i (parent_of ps i)

-- the parent of each node comes before it
abbrev pub AreAfterParents : List (Option ℕ) → Type 0
AreAfterParents ps = (i p : ℕ) → parent_of ps i ≡ Some p → p < i

-- the parents of a tree, and the number of nodes that memory is made for
pub record Branches : Type 0 where
  pub parents : List (Option ℕ)
  pub room : ℕ

-- the parent of a new node, if any, is there
abbrev pub IsThere : List (Option ℕ) → Option ℕ → Type 0
IsThere ps None = Unit {0}
IsThere ps (Some p) = p < length ps

abbrev pub with_node : Branches → Option ℕ → Branches
with_node t p = record { parents = t.parents ++ p ∷ []; room = t.room }
