-- Lean trees: a search branches only if that may be of use. `IsOpen` says which leaves are open.
-- `claimed` is the cost that is to be undercut, if there is one. Each node is taken as its steps
-- leave it.
use Rattle.std.specs.Prelude.{ℕ, ℤ, ◌*ℤ◌, ◌≤ℤ◌, List, [], ◌∷◌, Option}
use Rattle.flow_rules.specs.problem_rules.Problem.{Problem}
use Rattle.flow_rules.specs.pns_rules.Shape.{shape_of}
use Rattle.flow_rules.specs.pns_rules.Nodes.{Node}
use Rattle.flow_rules.specs.pns_rules.Ends.{IsDead, IsNever, IsReduced}
use Rattle.flow_rules.specs.Net.{net_of}
use Rattle.flow_rules.specs.Relaxed.{IsRelaxed, relaxed_cost}
use Rattle.tree_rules.specs.Ways.{Way, IsDecision}
use Rattle.tree_rules.specs.Tree.{branch, leaf, TreeNode, Stands}
use Rattle.tree_rules.specs.Claim.{CostOver, IsAtMost}

-- the node has relaxed flows that cost at most what is claimed; if no cost is claimed, any relaxed
-- flows
pub record MayUndercut (p : Problem) (claimed : Option CostOver) (n : Node) : Type 0 where
  pub sizes : ℕ → ℤ
  pub d : ℤ
  pub relaxed : IsRelaxed (net_of p) n sizes d
  pub at_most : IsAtMost claimed (relaxed_cost (net_of p) n sizes d) d

-- the node has relaxed flows that cost at most this much over e
pub record HasCheaper (p : Problem) (n : Node) (much e : ℤ) : Type 0 where
  pub sizes : ℕ → ℤ
  pub d : ℤ
  pub relaxed : IsRelaxed (net_of p) n sizes d
  pub at_most : (relaxed_cost (net_of p) n sizes d *ℤ e) ≤ℤ (much *ℤ d)

-- for any relaxed flows of the node m, the node n has some that cost no more
abbrev pub IsNoDearer : Problem → Node → Node → Type 0
IsNoDearer p n m = (z : ℕ → ℤ) (d : ℤ) → IsRelaxed (net_of p) m z d
    → HasCheaper p n (relaxed_cost (net_of p) m z d) d

pub record IsLean {L : Type 0} (p : Problem) (IsOpen : L → Type 0) (claimed : Option CostOver)
    (start : Node) (tree : List (TreeNode L)) : Type 0 where
  pub reduced : (k : ℕ) (w : Way) (n : Node) → Stands (shape_of p) (start ∷ []) tree k n (branch w)
      → IsReduced (shape_of p) n
  pub splits : (k : ℕ) (w : Way) (n : Node) → Stands (shape_of p) (start ∷ []) tree k n (branch w)
      → IsDecision (shape_of p) n w
  pub of_use : (k : ℕ) (w : Way) (n : Node) → Stands (shape_of p) (start ∷ []) tree k n (branch w)
      → MayUndercut p claimed n
  -- no leaf that is still open should have been branched before it
  pub in_turn : (k : ℕ) (w : Way) (n : Node) → Stands (shape_of p) (start ∷ []) tree k n (branch w)
      → (j : ℕ) (m : Node) (l : L) → Stands (shape_of p) (start ∷ []) tree j m (leaf l) → IsOpen l
      → IsNever (IsDead (shape_of p) m) → IsNoDearer p n m
