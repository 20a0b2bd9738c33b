-- Laws of trees with a head, each the contract of a public function of this crate. A structure that
-- the head rules out is in no family of a leaf. It has no flows that cost less than what is
-- claimed, so the laws say of it what they say of the others.
use Rattle.std.specs.Prelude.{◌≡◌, ◌⊎◌, ℕ, ℤ, Bool, true, false, List, [], ◌∷◌, Option}
use Rattle.tree_rules.specs.problem_rules.Problem.{Problem}
use Rattle.tree_rules.specs.problem_rules.Validity.{IsValid}
use Rattle.tree_rules.specs.pns_rules.Shape.{shape_of}
use Rattle.tree_rules.specs.pns_rules.Structure.{IsStructure, IsAllowed, InFamily}
use Rattle.tree_rules.specs.pns_rules.Nodes.{Node}
use Rattle.tree_rules.specs.flow_rules.Net.{net_of}
use Rattle.tree_rules.specs.flow_rules.Flows.{IsFlows, cost}
use Rattle.tree_rules.specs.flow_rules.ChargeFacts.{Facts}
use Rattle.tree_rules.specs.declared.why.Why.{Why}
use Rattle.tree_rules.specs.Tree.{leaf, Stands}
use Rattle.tree_rules.specs.Claim.{Network, network, Claim, unknown, CostOver, IsAtLeast}
use Rattle.tree_rules.specs.Claim.{claimed_cost, IsFeasible}
use Rattle.tree_rules.specs.Fault.{AreLeafRules}
use Rattle.tree_rules.specs.Leaf.{untried, Scaled}
use Rattle.tree_rules.specs.Costs.{CostsEnough}
use Rattle.tree_rules.specs.Accepted.{Tree, Proves, NodeIsFault}
use Rattle.tree_laws.specs.Laws.{IsStillOpen}
use Rattle.tree_rules.specs.Head.{HeadLine}
use Rattle.tree_rules.specs.Headed.{head_node, LeafPassesBy, LeafFailsBy, ProvesBy, IsAcceptedBy}
use Rattle.tree_rules.specs.Headed.{IsPartialBy, NodeIsFaultBy}

-- ---- trees without a head

-- a tree proves a claim exactly if it does so by a head without lines
abbrev pub EmptyHeadProves : Type 0
EmptyHeadProves =
    (partial : Bool) (p : Problem) (start : Node) (claim : Claim) (tree : Tree)
    → (Proves partial p start claim tree → ProvesBy partial p start claim [] tree)
    × (ProvesBy partial p start claim [] tree → Proves partial p start claim tree)

-- and has the same first fault
abbrev pub EmptyHeadFails : Type 0
EmptyHeadFails =
    (partial : Bool) (p : Problem) (start : Node) (claim : Claim) (tree : Tree) (k : ℕ) (why : Why)
    → (NodeIsFault partial p start claim tree k why
    → NodeIsFaultBy partial p start claim [] tree k why)
    × (NodeIsFaultBy partial p start claim [] tree k why
    → NodeIsFault partial p start claim tree k why)

-- ---- whole trees

-- each clash-free solution structure of the start costs at least what is claimed, with any flows;
-- if it is claimed that no network has flows, it has none
abbrev pub AcceptedByIsLeast : Type 0
AcceptedByIsLeast =
    (p : Problem) → IsValid p → (start : Node) (claim : Claim) (head : List HeadLine) (tree : Tree)
    → ProvesBy false p start claim head tree
    → (s : ℕ → Bool) → InFamily (shape_of p) start.inside start.outside s
    → CostsEnough p (claimed_cost claim) s

-- if the tree begins at the node that its head leaves, so does each clash-free solution structure
-- of the problem
abbrev pub AcceptedByIsOptimal : Type 0
AcceptedByIsOptimal =
    (p : Problem) → IsValid p → (claim : Claim) (head : List HeadLine) (tree : Tree)
    → IsAcceptedBy p claim head tree
    → (s : ℕ → Bool) → IsStructure (shape_of p) s → IsAllowed (shape_of p) s
    → CostsEnough p (claimed_cost claim) s

-- and what is claimed is a clash-free solution structure with flows of that cost
abbrev pub AcceptedByHasFlows : Type 0
AcceptedByHasFlows =
    (p : Problem) (start : Node) (w : Network) (head : List HeadLine) (tree : Tree)
    → ProvesBy false p start (network w) head tree → IsFeasible p w

-- ---- partial trees

-- each clash-free solution structure of the start that is in no family of an open leaf costs at
-- least what is claimed, with any flows; if no network is claimed, it has no flows
abbrev pub PartialByIsLeast : Type 0
PartialByIsLeast =
    (p : Problem) → IsValid p → (start : Node) (claim : Claim) (head : List HeadLine) (tree : Tree)
    → ProvesBy true p start claim head tree
    → (s : ℕ → Bool) → InFamily (shape_of p) start.inside start.outside s
    → IsStillOpen p start tree s ⊎ CostsEnough p (claimed_cost claim) s

-- if the tree begins at the node that its head leaves, flows of any clash-free solution structure
-- of the problem cost at least what is claimed, or the structure is in the family of an open leaf
abbrev pub PartialByIsLeastOfAll : Type 0
PartialByIsLeastOfAll =
    (p : Problem) → IsValid p → (claim : Claim) (head : List HeadLine) (tree : Tree)
    → IsPartialBy p claim head tree
    → (s : ℕ → Bool) → IsStructure (shape_of p) s → IsAllowed (shape_of p) s
    → (z : ℕ → ℤ) (d : ℤ) → IsFlows (net_of p) s z d
    → IsStillOpen p (head_node p head) tree s
    ⊎ IsAtLeast (claimed_cost claim) (cost (net_of p) s z d) d

-- ---- whole and partial

-- an accepted tree is partial too
abbrev pub AcceptedByIsPartialBy : Type 0
AcceptedByIsPartialBy =
    (p : Problem) (start : Node) (claim : Claim) (head : List HeadLine) (tree : Tree)
    → ProvesBy false p start claim head tree → ProvesBy true p start claim head tree

-- a partial tree that claims something and has no open leaf is accepted
abbrev pub PartialByIsAcceptedBy : Type 0
PartialByIsAcceptedBy =
    (p : Problem) (start : Node) (claim : Claim) (head : List HeadLine) (tree : Tree)
    → ProvesBy true p start claim head tree
    → (claim ≡ unknown → ⊥)
    → ((k : ℕ) (n : Node) (low : Option Scaled)
    → Stands (shape_of p) (start ∷ []) tree k n (leaf (untried low)) → ⊥)
    → ProvesBy false p start claim head tree

-- ---- faults

-- the leaves have rules, whatever is known
abbrev pub LeavesHaveRulesBy : Type 0
LeavesHaveRulesBy =
    (f : Facts) (partial : Bool) (p : Problem) (claimed : Option CostOver)
    → AreLeafRules (LeafPassesBy f partial p claimed) (LeafFailsBy f partial p claimed)

-- a tree that passes has no first fault, and the others have one
abbrev pub PassingTreeHasNoFaultBy : Type 0
PassingTreeHasNoFaultBy =
    (partial : Bool) (p : Problem) (start : Node) (claim : Claim) (head : List HeadLine)
    (tree : Tree) (k : ℕ) (why : Why)
    → ProvesBy partial p start claim head tree
    → NodeIsFaultBy partial p start claim head tree k why → ⊥

abbrev pub TreeHasOneFaultBy : Type 0
TreeHasOneFaultBy =
    (partial : Bool) (p : Problem) (start : Node) (claim : Claim) (head : List HeadLine)
    (tree : Tree) (j k : ℕ) (why other : Why)
    → NodeIsFaultBy partial p start claim head tree j why
    → NodeIsFaultBy partial p start claim head tree k other
    → (j ≡ k) × (why ≡ other)
