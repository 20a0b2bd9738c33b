-- Branch trees, as lists of their nodes in preorder (accelerated branch and bound of Friedler,
-- Varga, Feher and Fan 1996). L is what the leaves may be.
use Rattle.std.specs.Prelude.{◌≡◌, ℕ, zero, suc, ◌+◌, ◌<◌, List, [], ◌∷◌, ◌++◌}
use Rattle.flow_rules.specs.pns_rules.Shape.{Shape}
use Rattle.flow_rules.specs.pns_rules.Nodes.{Node, Step, IsPossible, after}
use Rattle.tree_rules.specs.Ways.{Way, width, MayBranch, options_at, children_at}

pub data End (L : Type 0) : Type 0 where
  branch : Way → End L
  leaf : L → End L

-- the option of the parent's way to branch, which is taken in at this node; the steps that follow
-- from it; and the end
pub record TreeNode (L : Type 0) : Type 0 where
  pub option : List ℕ
  pub steps : List Step
  pub end : End L

-- ---- the form of a tree

-- how many subtrees follow a node as its children
abbrev pub children : {L : Type 0} → End L → ℕ
children (branch w) = width w
children (leaf l) = 0

abbrev pub HasChildren : {L : Type 0} → End L → Type 0
HasChildren (branch w) = 0 < width w
HasChildren (leaf l) = Unit {0}

-- the list is just k whole subtrees, one after the other
abbrev pub IsForest : {L : Type 0} → ℕ → List (TreeNode L) → Type 0
IsForest zero [] = Unit {0}
IsForest zero (t ∷ ts) = ⊥
IsForest (suc k) [] = ⊥
IsForest (suc k) (t ∷ ts) = HasChildren t.end × IsForest (children t.end + k) ts

-- the list is one whole tree, whose root has the empty option
abbrev pub IsTree : {L : Type 0} → List (TreeNode L) → Type 0
IsTree [] = ⊥
IsTree (t ∷ ts) = (t.option ≡ []) × IsForest 1 (t ∷ ts)

-- what follows k subtrees
abbrev pub skip : {L : Type 0} → ℕ → List (TreeNode L) → List (TreeNode L)
skip zero ts = ts
skip (suc k) [] = []
skip (suc k) (t ∷ ts) = skip (children t.end + k) ts

-- the options of the roots of the first k subtrees
abbrev pub roots : {L : Type 0} → ℕ → List (TreeNode L) → List (List ℕ)
roots zero ts = []
roots (suc k) [] = []
roots (suc k) (t ∷ ts) = t.option ∷ roots k (skip 1 (t ∷ ts))

-- ---- the nodes at which the ends of a tree are

-- each step is possible in turn
abbrev pub StepsPass : Shape → Node → List Step → Type 0
StepsPass g n [] = Unit {0}
StepsPass g n (s ∷ ss) = IsPossible g n s × StepsPass g (after g n s) ss

-- the node that the steps leave
abbrev pub after_all : Shape → Node → List Step → Node
after_all g n [] = n
after_all g n (s ∷ ss) = after_all g (after g n s) ss

-- the nodes of the children
abbrev pub below : {L : Type 0} → Shape → Node → End L → List Node
below g n (branch w) = children_at g n w
below g n (leaf l) = []

-- of the subtrees of the nodes in the first list, node k in preorder has the end e, and its steps
-- leave the node n
abbrev pub Stands : {L : Type 0} → Shape → List Node → List (TreeNode L) → ℕ → Node → End L → Type 0
Stands g [] ts k n e = ⊥
Stands g (m ∷ ms) [] k n e = ⊥
Stands g (m ∷ ms) (t ∷ ts) zero n e = (after_all g m t.steps ≡ n) × (t.end ≡ e)
Stands g (m ∷ ms) (t ∷ ts) (suc k) n e =
    Stands g (below g (after_all g m t.steps) t.end ++ ms) ts k n e

-- ---- trees that pass: P says which leaves pass, and at which nodes

-- A leaf passes by P. A branch passes if the node may be branched so, and the children have all
-- options in order. The subtrees of the children begin the list `behind`.
abbrev pub EndPasses : {L : Type 0} → Shape → (Node → L → Type 0) → Node → End L → List (TreeNode L)
    → Type 0
EndPasses g P n (branch w) behind = MayBranch g n w × (roots (width w) behind ≡ options_at g n w)
EndPasses g P n (leaf l) behind = P n l

-- The list is the subtrees of the nodes, one after the other, and each passes at its node.
abbrev pub Pass : {L : Type 0} → Shape → (Node → L → Type 0) → List Node → List (TreeNode L)
    → Type 0
Pass g P [] [] = Unit {0}
Pass g P [] (t ∷ ts) = ⊥
Pass g P (n ∷ ns) [] = ⊥
Pass g P (n ∷ ns) (t ∷ ts) =
    StepsPass g n t.steps
    × EndPasses g P (after_all g n t.steps) t.end ts
    × Pass g P (below g (after_all g n t.steps) t.end ++ ns) ts
