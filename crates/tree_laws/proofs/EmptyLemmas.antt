-- A head without lines is as none.
use Rattle.std.proofs.Common.{ℕ, zero, suc, Bool, List, [], ◌∷◌, ◌++◌, Option, inl, inr}
use Rattle.tree_rules.specs.problem_rules.Problem.{Problem}
use Rattle.tree_rules.specs.pns_rules.Shape.{Shape, shape_of}
use Rattle.tree_rules.specs.pns_rules.Nodes.{Node}
use Rattle.tree_rules.specs.flow_rules.Net.{net_of}
use Rattle.tree_rules.specs.flow_rules.ChargeFacts.{own_facts}
use Rattle.tree_rules.specs.declared.why.Why.{Why}
use Rattle.tree_rules.specs.Tree.{End, branch, leaf, TreeNode, after_all, below, EndPasses}
use Rattle.tree_rules.specs.Fault.{EndFails, NodeFails, IsFirstFault}
use Rattle.tree_rules.specs.Claim.{CostOver, claimed_cost}
use Rattle.tree_rules.specs.Leaf.{Leaf, dead, clash, refuted, bounded, charged, untried}
use Rattle.tree_rules.specs.Leaf.{LeafPasses, LeafFails}
use Rattle.tree_laws.proofs.OpenLemmas.{passes_too}
use Rattle.tree_rules.specs.Headed.{LeafPassesBy, LeafFailsBy}
use Rattle.tree_laws.specs.HeadLaws.{EmptyHeadProves, EmptyHeadFails}

module _ (partial : Bool) (p : Problem) (claimed : Option CostOver) where
  passes_by : (n : Node) (l : Leaf) → LeafPasses partial p claimed n l
      → LeafPassesBy (own_facts (net_of p)) partial p claimed n l
  passes_by n (dead x) h = h
  passes_by n (clash k) h = h
  passes_by n (refuted ys) h = h
  passes_by n (bounded d ys) h = h
  passes_by n (charged c) h = h
  passes_by n (untried low) h = h

  pub by_passes : (n : Node) (l : Leaf) → LeafPassesBy (own_facts (net_of p)) partial p claimed n l
      → LeafPasses partial p claimed n l
  by_passes n (dead x) h = h
  by_passes n (clash k) h = h
  by_passes n (refuted ys) h = h
  by_passes n (bounded d ys) h = h
  by_passes n (charged c) h = h
  by_passes n (untried low) h = h

  fails_by : (n : Node) (l : Leaf) (why : Why) → LeafFails partial p claimed n l why
      → LeafFailsBy (own_facts (net_of p)) partial p claimed n l why
  fails_by n (dead x) why h = h
  fails_by n (clash k) why h = h
  fails_by n (refuted ys) why h = h
  fails_by n (bounded d ys) why h = h
  fails_by n (charged c) why h = h
  fails_by n (untried low) why h = h

  pub by_fails : (n : Node) (l : Leaf) (why : Why)
      → LeafFailsBy (own_facts (net_of p)) partial p claimed n l why
      → LeafFails partial p claimed n l why
  by_fails n (dead x) why h = h
  by_fails n (clash k) why h = h
  by_fails n (refuted ys) why h = h
  by_fails n (bounded d ys) why h = h
  by_fails n (charged c) why h = h
  by_fails n (untried low) why h = h

-- a first fault for other rules of leaves, to which the first ones lead
module _ {L : Type 0} (g : Shape) (P Q : Node → L → Type 0) (F G : Node → L → Why → Type 0)
    (pass : (n : Node) (l : L) → P n l → Q n l)
    (fail : (n : Node) (l : L) (why : Why) → F n l why → G n l why) where
  end_passes_too : (n : Node) (e : End L) (ts : List (TreeNode L)) → EndPasses g P n e ts
      → EndPasses g Q n e ts
  end_passes_too n (branch w) ts h = h
  end_passes_too n (leaf l) ts h = pass n l h

  end_fails_too : (n : Node) (e : End L) (ts : List (TreeNode L)) (why : Why)
      → EndFails g F n e ts why → EndFails g G n e ts why
  end_fails_too n (branch w) ts why h = h
  end_fails_too n (leaf l) ts why h = fail n l why h

  node_fails_too : (n : Node) (t : TreeNode L) (ts : List (TreeNode L)) (why : Why)
      → NodeFails g F n t ts why → NodeFails g G n t ts why
  node_fails_too n t ts why (inl h) = inl h
  node_fails_too n t ts why (inr h) =
      inr (h.0, end_fails_too (after_all g n t.steps) t.end ts why h.1)

  pub fault_too : (ns : List Node) (ts : List (TreeNode L)) (k : ℕ) (why : Why)
      → IsFirstFault g P F ns ts k why → IsFirstFault g Q G ns ts k why
  fault_too [] ts k why h = h
  fault_too (n ∷ ns) [] k why h = h
  fault_too (n ∷ ns) (t ∷ ts) zero why h = node_fails_too n t ts why h
  fault_too (n ∷ ns) (t ∷ ts) (suc k) why h = (
    h.0,
    end_passes_too (after_all g n t.steps) t.end ts h.1,
    fault_too (below g (after_all g n t.steps) t.end ++ ns) ts k why h.2,
  )

pub empty_head_proves : EmptyHeadProves
empty_head_proves partial p start claim tree = (
  λ a. record {
    claimed = a.claimed;
    lines = tt;
    passes =
        passes_too (shape_of p) (LeafPasses partial p (claimed_cost claim))
        (LeafPassesBy (own_facts (net_of p)) partial p (claimed_cost claim)) (start ∷ []) tree
        (λ k n l w h. passes_by partial p (claimed_cost claim) n l h) a.passes;
  },
  λ a. record {
    claimed = a.claimed;
    passes =
        passes_too (shape_of p)
        (LeafPassesBy (own_facts (net_of p)) partial p (claimed_cost claim))
        (LeafPasses partial p (claimed_cost claim)) (start ∷ []) tree
        (λ k n l w h. by_passes partial p (claimed_cost claim) n l h) a.passes;
  },
)

pub empty_head_fails : EmptyHeadFails
empty_head_fails partial p start claim tree k why = (
  λ h. fault_too (shape_of p) (LeafPasses partial p (claimed_cost claim))
      (LeafPassesBy (own_facts (net_of p)) partial p (claimed_cost claim))
      (LeafFails partial p (claimed_cost claim))
      (LeafFailsBy (own_facts (net_of p)) partial p (claimed_cost claim))
      (passes_by partial p (claimed_cost claim)) (fails_by partial p (claimed_cost claim))
      (start ∷ []) tree k why h,
  λ h. fault_too (shape_of p)
      (LeafPassesBy (own_facts (net_of p)) partial p (claimed_cost claim))
      (LeafPasses partial p (claimed_cost claim))
      (LeafFailsBy (own_facts (net_of p)) partial p (claimed_cost claim))
      (LeafFails partial p (claimed_cost claim))
      (by_passes partial p (claimed_cost claim)) (by_fails partial p (claimed_cost claim))
      (start ∷ []) tree k why h,
)
