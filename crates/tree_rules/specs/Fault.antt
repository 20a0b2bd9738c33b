-- The first fault of a tree, and its cause. The nodes are judged in preorder, each by its steps and
-- then by its end. P says which leaves pass, and F for which cause one does not.
use Rattle.std.specs.Prelude.{◌≡◌, ◌⊎◌, ℕ, zero, suc, List, [], ◌∷◌, ◌++◌}
use Rattle.flow_rules.specs.pns_rules.Shape.{Shape}
use Rattle.flow_rules.specs.pns_rules.Nodes.{Node}
use Rattle.tree_rules.specs.declared.why.Why.{Why}
use Rattle.tree_rules.specs.declared.why.Why.TheVariants.{Step, Options}
use Rattle.tree_rules.specs.Ways.{width, MayBranch, options_at}
use Rattle.tree_rules.specs.Tree.{End, branch, leaf, TreeNode, roots, StepsPass, after_all, below}
use Rattle.tree_rules.specs.Tree.{EndPasses}

-- a line of a table of conditions: it fails for its cause, or it holds and one of the lines below
-- it fails
abbrev pub Fails : Type 0 → Why → Type 0 → Why → Type 0
Fails Line cause Below why = ((why ≡ cause) × ¬ Line) ⊎ (Line × Below)

-- Rules of leaves. P says which leaves pass at a node, and F for which cause one fails. No leaf
-- does both, and one that fails does so for one cause.
pub record AreLeafRules {L : Type 0} (P : Node → L → Type 0) (F : Node → L → Why → Type 0) : Type
    0 where
  pub apart : (n : Node) (l : L) (why : Why) → P n l → F n l why → ⊥
  pub one : (n : Node) (l : L) (why other : Why) → F n l why → F n l other → why ≡ other

abbrev pub EndFails : {L : Type 0} → Shape → (Node → L → Why → Type 0) → Node → End L
    → List (TreeNode L) → Why → Type 0
EndFails g F n (branch w) behind why =
    Fails (MayBranch g n w × (roots (width w) behind ≡ options_at g n w)) Options ⊥ why
EndFails g F n (leaf l) behind why = F n l why

abbrev pub NodeFails : {L : Type 0} → Shape → (Node → L → Why → Type 0) → Node → TreeNode L
    → List (TreeNode L) → Why → Type 0
NodeFails g F n t behind why =
    Fails (StepsPass g n t.steps) Step (EndFails g F (after_all g n t.steps) t.end behind why) why

-- of the subtrees of the nodes the first that fails is node k in preorder, for the cause
abbrev pub IsFirstFault : {L : Type 0} → Shape → (Node → L → Type 0) → (Node → L → Why → Type 0)
    → List Node → List (TreeNode L) → ℕ → Why → Type 0
IsFirstFault g P F [] ts k why = ⊥
IsFirstFault g P F (n ∷ ns) [] k why = ⊥
IsFirstFault g P F (n ∷ ns) (t ∷ ts) zero why = NodeFails g F n t ts why
IsFirstFault g P F (n ∷ ns) (t ∷ ts) (suc k) why =
    StepsPass g n t.steps
    × EndPasses g P (after_all g n t.steps) t.end ts
    × IsFirstFault g P F (below g (after_all g n t.steps) t.end ++ ns) ts k why
