-- What passes does not fail, and what fails does so for one cause.
use Rattle.std.proofs.Common.{◌≡◌, ℕ, zero, suc, ℤ, Bool, List, [], ◌∷◌, ◌++◌, Option, Some, None}
use Rattle.std.proofs.Common.{refl, sym, ap, ◌∙◌, inl, inr}
use Rattle.tree_rules.specs.problem_rules.Problem.{Problem}
use Rattle.tree_rules.specs.pns_rules.Shape.{Shape}
use Rattle.tree_rules.specs.pns_rules.Nodes.{Node}
use Rattle.tree_rules.specs.flow_rules.Net.{net_of}
use Rattle.tree_rules.specs.flow_rules.ChargeFacts.{own_facts}
use Rattle.tree_rules.proofs.flow_rules.Cited.{passing_has_no_cause, cause_is_one}
use Rattle.tree_rules.specs.declared.why.Why.{Why}
use Rattle.tree_rules.specs.Tree.{End, branch, leaf, TreeNode, StepsPass, after_all, below}
use Rattle.tree_rules.specs.Tree.{EndPasses, Pass}
use Rattle.tree_rules.specs.Fault.{Fails, AreLeafRules, EndFails, NodeFails, IsFirstFault}
use Rattle.tree_rules.specs.Claim.{network, Claim, infeasible, unknown, CostOver, IsAtLeast}
use Rattle.tree_rules.specs.Claim.{ClaimPasses, ClaimFails}
use Rattle.tree_rules.specs.Leaf.{Leaf, dead, clash, refuted, bounded, charged, untried, Scaled}
use Rattle.tree_rules.specs.Leaf.{IsClaimed, IsBounded, why_of, LowFails, LeafPasses, LeafFails}

-- a line that holds, with no fault below it
pub holds : (Line : Type 0) (cause : Why) (Below : Type 0) (why : Why) → Line → (Below → ⊥)
    → Fails Line cause Below why → ⊥
holds Line cause Below why h k (inl f) = f.1 h
holds Line cause Below why h k (inr f) = k f.1

-- a line below which there is one cause
pub one_of : (Line : Type 0) (cause : Why) (Below Other : Type 0) (why other : Why)
    → (Below → Other → why ≡ other) → Fails Line cause Below why → Fails Line cause Other other
    → why ≡ other
one_of Line cause Below Other why other k (inl f) (inl e) = f.0 ∙ sym e.0
one_of Line cause Below Other why other k (inl f) (inr e) = absurd (f.1 e.0)
one_of Line cause Below Other why other k (inr f) (inl e) = absurd (e.1 f.0)
one_of Line cause Below Other why other k (inr f) (inr e) = k f.1 e.1

-- ---- claims

pub none : ⊥ → ⊥
none x = x

pub neither : (why other : Why) → ⊥ → ⊥ → why ≡ other
neither why other x y = absurd x

pub claim_passes : (partial : Bool) (p : Problem) (claim : Claim) (why : Why)
    → ClaimPasses partial p claim → ClaimFails partial p claim why → ⊥
claim_passes partial p (network w) why c f =
    holds _ _ _ why c.structure
    (holds _ _ _ why c.allowed
    (holds _ _ _ why c.balances
    (holds _ _ _ why c.flows
    (holds _ _ _ why c.costs
    (holds _ _ _ why c.cost_is none))))) f
claim_passes partial p infeasible why c f = f
claim_passes partial p unknown why c f = holds _ _ _ why c none f

pub claim_one : (partial : Bool) (p : Problem) (claim : Claim) (why other : Why)
    → ClaimFails partial p claim why → ClaimFails partial p claim other → why ≡ other
claim_one partial p (network w) why other =
    one_of _ _ _ _ why other
    (one_of _ _ _ _ why other
    (one_of _ _ _ _ why other
    (one_of _ _ _ _ why other
    (one_of _ _ _ _ why other
    (one_of _ _ _ _ why other (neither why other))))))
claim_one partial p infeasible why other = neither why other
claim_one partial p unknown why other = one_of _ _ _ _ why other (neither why other)

-- ---- leaves

is_claimed : (p : Problem) (claimed : Option CostOver) (n : Node) (d : ℤ) (ys : List ℤ)
    → IsBounded p claimed n d ys → IsClaimed claimed
is_claimed p None n d ys b = b.reaches
is_claimed p (Some claimed) n d ys b = tt

pub leaf_passes : (partial : Bool) (p : Problem) (claimed : Option CostOver) (n : Node) (l : Leaf)
    (why : Why) → LeafPasses partial p claimed n l → LeafFails partial p claimed n l why → ⊥
leaf_passes partial p claimed n (dead x) why c f = holds _ _ _ why c none f
leaf_passes partial p claimed n (clash k) why c f = holds _ _ _ why c none f
leaf_passes partial p claimed n (refuted ys) why c f =
    holds _ _ _ why c.each_row (holds _ _ _ why c.formed (holds _ _ _ why c.refutes none)) f
leaf_passes partial p claimed n (bounded d ys) why c f =
    holds _ _ _ why (is_claimed p claimed n d ys c, c.positive, c.each_row)
    (holds _ _ _ why c.formed (holds _ _ _ why c.reaches none)) f
leaf_passes partial p claimed n (charged h) why c f =
    passing_has_no_cause p (IsClaimed claimed) (IsAtLeast claimed) n (own_facts (net_of p)) h c f.0
    f.2
leaf_passes partial p claimed n (untried None) why c f = holds _ _ _ why c.0 none f
leaf_passes partial p claimed n (untried (Some low)) why c f =
    holds _ _ _ why c.0
    (holds _ _ _ why (c.1.positive, c.1.each_row) (holds _ _ _ why c.1.formed none)) f

low_one : (p : Problem) (n : Node) (low : Option Scaled) (why other : Why) → LowFails p n low why
    → LowFails p n low other → why ≡ other
low_one p n None why other = neither why other
low_one p n (Some low) why other =
    one_of _ _ _ _ why other (one_of _ _ _ _ why other (neither why other))

pub leaf_one : (partial : Bool) (p : Problem) (claimed : Option CostOver) (n : Node) (l : Leaf)
    (why other : Why) → LeafFails partial p claimed n l why → LeafFails partial p claimed n l other
    → why ≡ other
leaf_one partial p claimed n (dead x) why other = one_of _ _ _ _ why other (neither why other)
leaf_one partial p claimed n (clash k) why other = one_of _ _ _ _ why other (neither why other)
leaf_one partial p claimed n (refuted ys) why other =
    one_of _ _ _ _ why other
    (one_of _ _ _ _ why other (one_of _ _ _ _ why other (neither why other)))
leaf_one partial p claimed n (bounded d ys) why other =
    one_of _ _ _ _ why other
    (one_of _ _ _ _ why other (one_of _ _ _ _ why other (neither why other)))
leaf_one partial p claimed n (charged h) why other = λ f e.
    f.1
    ∙ ap why_of
    (cause_is_one p (IsClaimed claimed) (IsAtLeast claimed) n (own_facts (net_of p)) h f.0 e.0 f.2
    e.2)
    ∙ sym e.1
leaf_one partial p claimed n (untried low) why other =
    one_of _ _ _ _ why other (low_one p n low why other)

pub leaf_rules : (partial : Bool) (p : Problem) (claimed : Option CostOver)
    → AreLeafRules (LeafPasses partial p claimed) (LeafFails partial p claimed)
leaf_rules partial p claimed =
    record { apart = leaf_passes partial p claimed; one = leaf_one partial p claimed }

-- ---- trees

module _ {L : Type 0} (g : Shape) (P : Node → L → Type 0) (F : Node → L → Why → Type 0)
    (rules : AreLeafRules P F) where
  end_passes : (n : Node) (e : End L) (ts : List (TreeNode L)) (why : Why) → EndPasses g P n e ts
      → EndFails g F n e ts why → ⊥
  end_passes n (branch w) ts why p f = holds _ _ _ why p none f
  end_passes n (leaf l) ts why p f = rules.apart n l why p f

  end_one : (n : Node) (e : End L) (ts : List (TreeNode L)) (why other : Why)
      → EndFails g F n e ts why → EndFails g F n e ts other → why ≡ other
  end_one n (branch w) ts why other = one_of _ _ _ _ why other (neither why other)
  end_one n (leaf l) ts why other = rules.one n l why other

  pub tree_passes : (ns : List Node) (ts : List (TreeNode L)) (k : ℕ) (why : Why) → Pass g P ns ts
      → IsFirstFault g P F ns ts k why → ⊥
  tree_passes [] ts k why p f = f
  tree_passes (n ∷ ns) [] k why p f = f
  tree_passes (n ∷ ns) (t ∷ ts) zero why p f =
      holds _ _ _ why p.0 (end_passes (after_all g n t.steps) t.end ts why p.1) f
  tree_passes (n ∷ ns) (t ∷ ts) (suc k) why p f =
      tree_passes (below g (after_all g n t.steps) t.end ++ ns) ts k why p.2 f.2

  -- a node that passes does not fail
  node_passes : (n : Node) (t : TreeNode L) (ts : List (TreeNode L)) (why : Why)
      → StepsPass g n t.steps → EndPasses g P (after_all g n t.steps) t.end ts
      → NodeFails g F n t ts why → ⊥
  node_passes n t ts why h p f =
      holds _ _ _ why h (end_passes (after_all g n t.steps) t.end ts why p) f

  pub tree_one : (ns : List Node) (ts : List (TreeNode L)) (j k : ℕ) (why other : Why)
      → IsFirstFault g P F ns ts j why → IsFirstFault g P F ns ts k other → (j ≡ k) × (why ≡ other)
  tree_one [] ts j k why other f e = absurd f
  tree_one (n ∷ ns) [] j k why other f e = absurd f
  tree_one (n ∷ ns) (t ∷ ts) zero zero why other f e =
      (refl, one_of _ _ _ _ why other (end_one (after_all g n t.steps) t.end ts why other) f e)
  tree_one (n ∷ ns) (t ∷ ts) zero (suc k) why other f e = absurd (node_passes n t ts why e.0 e.1 f)
  tree_one (n ∷ ns) (t ∷ ts) (suc j) zero why other f e =
      absurd (node_passes n t ts other f.0 f.1 e)
  tree_one (n ∷ ns) (t ∷ ts) (suc j) (suc k) why other f e =
      let q = tree_one (below g (after_all g n t.steps) t.end ++ ns) ts j k why other f.2 e.2 in
      (ap suc q.0, q.1)
