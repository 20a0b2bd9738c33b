-- Laws of branch trees, each the contract of a public function of this crate.
use Rattle.std.specs.Prelude.{◌≡◌, ◌⊎◌, ℕ, suc, ◌<◌, ◌≤◌, ◌^◌, Bool, ◌||◌, ◌==◌, List, []}
use Rattle.std.specs.Prelude.{◌∷◌}
use Rattle.std.specs.Prelude.{length, Option, Some}
use Rattle.tree_rules.specs.number_sets.Sets.{listed, Avoids}
use Rattle.tree_rules.specs.number_sets.Options.{IsIn}
use Rattle.tree_rules.specs.problem_rules.Problem.{Problem}
use Rattle.tree_rules.specs.problem_rules.Validity.{IsValid}
use Rattle.tree_rules.specs.pns_rules.Shape.{Shape, IsProper, shape_of}
use Rattle.tree_rules.specs.pns_rules.Structure.{IsStructure, IsAllowed, InFamily}
use Rattle.tree_rules.specs.pns_rules.Nodes.{Node, is_free}
use Rattle.tree_rules.specs.declared.why.Why.{Why}
use Rattle.tree_rules.specs.Ways.{Way, either, MayBranch, options_at, child_at}
use Rattle.tree_rules.specs.Ways.{children_at}
use Rattle.tree_rules.specs.Ways.{IsDecision}
use Rattle.tree_rules.specs.Tree.{End, leaf, Stands}
use Rattle.tree_rules.specs.Claim.{Network, network, Claim, unknown, CostOver}
use Rattle.tree_rules.specs.Claim.{claimed_cost}
use Rattle.tree_rules.specs.Claim.{IsFeasible, ClaimPasses, ClaimFails}
use Rattle.tree_rules.specs.Fault.{AreLeafRules}
use Rattle.tree_rules.specs.Leaf.{Leaf, untried, Scaled, IsUntried, LeafPasses, LeafFails}
use Rattle.tree_rules.specs.Lean.{IsLean}
use Rattle.tree_rules.specs.Accepted.{Tree, first_node, Proves, IsAccepted, IsPartial}
use Rattle.tree_rules.specs.Accepted.{NodeIsFault}
use Rattle.tree_rules.specs.Costs.{CostsEnough}
use Rattle.tree_rules.specs.Lower.{lower_bound}

-- ---- ways to branch

-- each structure of a node that may be branched so is in the family of a child
abbrev pub ChildrenCover : Type 0
ChildrenCover =
    (g : Shape) → IsProper g → (n : Node) (w : Way) → MayBranch g n w → (s : ℕ → Bool)
    → InFamily g n.inside n.outside s
    → (t : List ℕ) × IsIn t (options_at g n w)
    × InFamily g (child_at g n w t).inside (child_at g n w t).outside s

-- no other structure is
abbrev pub ChildrenAreWithin : Type 0
ChildrenAreWithin =
    (g : Shape) (n : Node) (w : Way) (t : List ℕ) (s : ℕ → Bool)
    → InFamily g (child_at g n w t).inside (child_at g n w t).outside s
    → InFamily g n.inside n.outside s

-- and none is in the families of two
abbrev pub ChildrenAreApart : Type 0
ChildrenAreApart =
    (g : Shape) → IsProper g → (n : Node) (w : Way) → MayBranch g n w
    → (s : ℕ → Bool) (t t' : List ℕ)
    → IsIn t (options_at g n w) → IsIn t' (options_at g n w)
    → InFamily g (child_at g n w t).inside (child_at g n w t).outside s
    → InFamily g (child_at g n w t').inside (child_at g n w t').outside s → t ≡ t'

-- of the two children at a unit the one takes it in, and the other leaves it out
abbrev pub EitherChildren : Type 0
EitherChildren =
    (g : Shape) (n : Node) (u : ℕ)
    → children_at g n (either u)
    ≡ record { inside = λ v. (u == v) || n.inside v; outside = n.outside }
    ∷ record { inside = n.inside; outside = λ v. (u == v) || n.outside v } ∷ []

-- if there is something to decide, there are two children or more
abbrev pub ChildrenAreMany : Type 0
ChildrenAreMany = (g : Shape) (n : Node) (w : Way) → IsDecision g n w
    → 2 ≤ length (children_at g n w)

-- ---- whole trees

-- each clash-free solution structure of the start costs at least what is claimed, with any flows;
-- if it is claimed that no network has flows, it has none
abbrev pub AcceptedIsLeast : Type 0
AcceptedIsLeast =
    (p : Problem) → IsValid p → (start : Node) (claim : Claim) (tree : Tree)
    → IsAccepted p start claim tree
    → (s : ℕ → Bool) → InFamily (shape_of p) start.inside start.outside s
    → CostsEnough p (claimed_cost claim) s

-- if nothing is decided at the start, so does each clash-free solution structure of the problem
abbrev pub AcceptedIsOptimal : Type 0
AcceptedIsOptimal =
    (p : Problem) → IsValid p → (claim : Claim) (tree : Tree)
    → IsAccepted p first_node claim tree
    → (s : ℕ → Bool) → IsStructure (shape_of p) s → IsAllowed (shape_of p) s
    → CostsEnough p (claimed_cost claim) s

-- and what is claimed is a clash-free solution structure with flows of that cost
abbrev pub AcceptedHasFlows : Type 0
AcceptedHasFlows = (p : Problem) (start : Node) (w : Network) (tree : Tree)
    → IsAccepted p start (network w) tree → IsFeasible p w

-- ---- leaves

-- the structure s is in the family of a leaf, which passes at its node
pub record IsAtLeaf (partial : Bool) (p : Problem) (start : Node) (claim : Claim)
    (tree : Tree)
    (s : ℕ → Bool) : Type 0 where
  pub place : ℕ
  pub node : Node
  pub what : Leaf
  pub stands : Stands (shape_of p) (start ∷ []) tree place node (leaf what)
  pub passes : LeafPasses partial p (claimed_cost claim) node what
  pub in_family : InFamily (shape_of p) node.inside node.outside s

-- the families of the leaves cover that of the start
abbrev pub LeavesCover : Type 0
LeavesCover =
    (partial : Bool) (p : Problem) → IsValid p
    → (start : Node) (claim : Claim) (tree : Tree)
    → Proves partial p start claim tree
    → (s : ℕ → Bool) → InFamily (shape_of p) start.inside start.outside s
    → IsAtLeaf partial p start claim tree s

-- the structure s is in the family of an open leaf
pub record IsStillOpen (p : Problem) (start : Node) (tree : Tree) (s : ℕ → Bool) : Type
    0 where
  pub place : ℕ
  pub node : Node
  pub low : Option Scaled
  pub stands : Stands (shape_of p) (start ∷ []) tree place node (leaf (untried low))
  pub in_family : InFamily (shape_of p) node.inside node.outside s

-- so each clash-free solution structure of the start that is in no family of an open leaf costs at
-- least what is claimed, with any flows; if no network is claimed, it has no flows
abbrev pub PartialIsLeast : Type 0
PartialIsLeast =
    (p : Problem) → IsValid p → (start : Node) (claim : Claim) (tree : Tree)
    → IsPartial p start claim tree
    → (s : ℕ → Bool) → InFamily (shape_of p) start.inside start.outside s
    → IsStillOpen p start tree s ⊎ CostsEnough p (claimed_cost claim) s

-- and if a partial tree has a lower bound, each clash-free solution structure of the start costs at
-- least as much, open leaves or not; if there is no cost in it, it has no flows
abbrev pub LowerBoundHolds : Type 0
LowerBoundHolds =
    (p : Problem) → IsValid p → (start : Node) (claim : Claim) (tree : Tree)
    → IsPartial p start claim tree
    → (low : Option CostOver) → lower_bound p start claim tree ≡ Some low
    → (s : ℕ → Bool) → InFamily (shape_of p) start.inside start.outside s
    → CostsEnough p low s

-- if nothing is decided at the start, so does each clash-free solution structure of the problem
abbrev pub LowerBoundOfAll : Type 0
LowerBoundOfAll =
    (p : Problem) → IsValid p → (claim : Claim) (tree : Tree)
    → IsPartial p first_node claim tree
    → (low : Option CostOver) → lower_bound p first_node claim tree ≡ Some low
    → (s : ℕ → Bool) → IsStructure (shape_of p) s → IsAllowed (shape_of p) s
    → CostsEnough p low s

-- no solution structure is in the families of two leaves
abbrev pub LeavesAreApart : Type 0
LeavesAreApart =
    (partial : Bool) (p : Problem) → IsValid p
    → (start : Node) (claim : Claim) (tree : Tree)
    → Proves partial p start claim tree
    → (s : ℕ → Bool) (j k : ℕ) (m n : Node) (a b : Leaf)
    → Stands (shape_of p) (start ∷ []) tree j m (leaf a)
    → InFamily (shape_of p) m.inside m.outside s
    → Stands (shape_of p) (start ∷ []) tree k n (leaf b)
    → InFamily (shape_of p) n.inside n.outside s → j ≡ k

-- if no unit is both taken in and left out at the start, no two leaves are at one node
abbrev pub LeavesAreDifferent : Type 0
LeavesAreDifferent =
    (partial : Bool) (p : Problem) → IsValid p
    → (start : Node) (claim : Claim) (tree : Tree)
    → Avoids start.inside start.outside
    → Proves partial p start claim tree → (j k : ℕ) (n : Node) (a b : Leaf)
    → Stands (shape_of p) (start ∷ []) tree j n (leaf a)
    → Stands (shape_of p) (start ∷ []) tree k n (leaf b) → j ≡ k

-- ---- lean trees

-- how many units are neither taken in nor left out
abbrev pub free_units : Shape → Node → ℕ
free_units g n = length (listed g.units (is_free g n))

-- a lean tree has fewer nodes than twice the number of sets of the units that are free after the
-- steps of its root
abbrev pub LeanIsSmall : Type 0
LeanIsSmall =
    (partial : Bool) (p : Problem) (start : Node) (claim : Claim) (tree : Tree)
    → Proves partial p start claim tree
    → IsLean p IsUntried (claimed_cost claim) start tree
    → (n : Node) (e : End Leaf) → Stands (shape_of p) (start ∷ []) tree 0 n e
    → length tree < 2 ^ suc (free_units (shape_of p) n)

-- ---- whole and partial

-- an accepted tree is partial too
abbrev pub AcceptedIsPartial : Type 0
AcceptedIsPartial = (p : Problem) (start : Node) (claim : Claim) (tree : Tree)
    → IsAccepted p start claim tree → IsPartial p start claim tree

-- a partial tree that claims something and has no open leaf is accepted
abbrev pub PartialIsAccepted : Type 0
PartialIsAccepted =
    (p : Problem) (start : Node) (claim : Claim) (tree : Tree)
    → IsPartial p start claim tree
    → (claim ≡ unknown → ⊥)
    → ((k : ℕ) (n : Node) (low : Option Scaled)
    → Stands (shape_of p) (start ∷ []) tree k n (leaf (untried low)) → ⊥)
    → IsAccepted p start claim tree

-- ---- faults

-- the leaves of a search's trees have rules
abbrev pub LeavesHaveRules : Type 0
LeavesHaveRules = (partial : Bool) (p : Problem) (claimed : Option CostOver)
    → AreLeafRules (LeafPasses partial p claimed) (LeafFails partial p claimed)

-- a claim that passes has no fault, and the others have one cause
abbrev pub PassingClaimHasNoFault : Type 0
PassingClaimHasNoFault = (partial : Bool) (p : Problem) (claim : Claim) (why : Why)
    → ClaimPasses partial p claim → ClaimFails partial p claim why → ⊥

abbrev pub ClaimHasOneFault : Type 0
ClaimHasOneFault = (partial : Bool) (p : Problem) (claim : Claim) (why other : Why)
    → ClaimFails partial p claim why → ClaimFails partial p claim other → why ≡ other

-- a tree that passes has no first fault, and the others have one
abbrev pub PassingTreeHasNoFault : Type 0
PassingTreeHasNoFault =
    (partial : Bool) (p : Problem) (start : Node) (claim : Claim) (tree : Tree) (k : ℕ)
    (why : Why)
    → Proves partial p start claim tree → NodeIsFault partial p start claim tree k why → ⊥

abbrev pub TreeHasOneFault : Type 0
TreeHasOneFault =
    (partial : Bool) (p : Problem) (start : Node) (claim : Claim) (tree : Tree) (j k : ℕ)
    (why other : Why)
    → NodeIsFault partial p start claim tree j why
    → NodeIsFault partial p start claim tree k other
    → (j ≡ k) × (why ≡ other)
