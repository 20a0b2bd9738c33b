-- Laws of the turns of a search, each of which a public function of this crate has as its contract.
-- Each holds for every valid problem.
use Rattle.std.specs.Prelude.{◌≡◌, ℕ, ◌+◌, ◌<◌, ◌++◌, slice_set, ℤ, ◌*ℤ◌, ◌≤ℤ◌, Bool, true, List}
use Rattle.std.specs.Prelude.{[], ◌∷◌, length, Option, Some}
use Rattle.std.specs.List.{slice_get}
use Rattle.tree_laws.specs.problem_rules.Problem.{Problem}
use Rattle.tree_laws.specs.problem_rules.Validity.{IsValid}
use Rattle.tree_laws.specs.pns_rules.Shape.{shape_of}
use Rattle.tree_laws.specs.pns_rules.Structure.{IsBetween}
use Rattle.tree_laws.specs.pns_rules.Nodes.{Node}
use Rattle.tree_laws.specs.flow_rules.Net.{net_of}
use Rattle.tree_laws.specs.flow_rules.Flows.{IsFlows, cost}
use Rattle.tree_laws.specs.tree_rules.Ways.{Way, width}
use Rattle.tree_laws.specs.tree_rules.Tree.{branch}
use Rattle.tree_laws.specs.tree_rules.Leaf.{IsUntried}
use Rattle.tree_laws.specs.tree_rules.Claim.{Claim, unknown, CostOver, claimed_cost, IsAtMost}
use Rattle.tree_laws.specs.tree_rules.Claim.{ClaimPasses}
use Rattle.tree_laws.specs.tree_rules.Lean.{MayUndercut, HasCheaper, IsNoDearer, IsLean}
use Rattle.tree_laws.specs.tree_rules.Stops.{IsOpenAt, IsPending, IsNextCount, IsSpent}
use Rattle.tree_laws.specs.tree_rules.Accepted.{IsAccepted}
use Rattle.search_tree.specs.Cells.{Cell, place_of, cell_at}
use Rattle.search_tree.specs.Growth.{as_parent, EndsOpen}
use Rattle.search_tree.specs.Preorder.{IsPreorder, tree_of}
use Rattle.branch_tree.specs.Values.{IsPositive, IsUnder, IsPositiveCost}
use Rattle.tree_laws.specs.tree_rules.Costs.{HasFallen}
use Rattle.search_tree.specs.Kept.{IsKeptFor}
use Rattle.search_tree.specs.Turns.{CanBranch, IsLeastOpen, AreChildren, IsBranched, AreShut}

-- ---- what a turn keeps

-- an open leaf is branched that costs no more than any other, if it may undercut what is to be
-- undercut after that
abbrev pub BranchingIsKept : Type 0
BranchingIsKept =
    (p : Problem) → IsValid p
    → (start : Node) (claim new_claim : Claim) (undercut new_undercut : Option CostOver)
    (last : Option Node) (old children new : List Cell) (at : ℕ) (w : Way)
    → IsKeptFor p start claim undercut last old → CanBranch p old at w → IsLeastOpen p old at
    → HasFallen (claimed_cost claim) (claimed_cost new_claim)
    → IsPositiveCost (claimed_cost new_claim) → IsPositiveCost new_undercut
    → MayUndercut p new_undercut (place_of (cell_at old at))
    → AreChildren p (claimed_cost new_claim) (place_of (cell_at old at)) w children
    → IsBranched old children new at w
    → IsKeptFor p start new_claim new_undercut (Some (place_of (cell_at old at))) new

-- open leaves are shut, or get bounds
abbrev pub ShuttingIsKept : Type 0
ShuttingIsKept =
    (p : Problem) (start : Node) (claim : Claim) (undercut : Option CostOver) (last : Option Node)
    (old new : List Cell)
    → IsKeptFor p start claim undercut last old → AreShut p (claimed_cost claim) old new
    → IsKeptFor p start claim undercut last new

-- ---- what the call of `search_tree` that branches a leaf does to the cells is such a step

abbrev pub GrowthBranches : Type 0
GrowthBranches =
    (old children : List Cell) (at : ℕ) (w : Way) → at < length old → width w ≡ length children
    → IsBranched old children
    (slice_set old at (as_parent (cell_at old at) (length old) (branch w)) ++ children) at w

-- ---- how costs show that a leaf may be branched

-- a node that has relaxed flows of at most v costs no more than one that has none below v
abbrev pub ReachedIsNoDearer : Type 0
ReachedIsNoDearer = (p : Problem) (n m : Node) (v : CostOver) → IsPositive v
    → HasCheaper p n v.cost v.d → IsUnder p v m → IsNoDearer p n m

-- a node that has relaxed flows of at most v may undercut a cost that v is at most
abbrev pub ReachedMayUndercut : Type 0
ReachedMayUndercut =
    (p : Problem) (undercut : Option CostOver) (n : Node) (v : CostOver) → IsPositive v
    → IsPositiveCost undercut → IsAtMost undercut v.cost v.d → HasCheaper p n v.cost v.d
    → MayUndercut p undercut n

-- a network of a node that has no relaxed flows cheaper than v costs at least v
abbrev pub NetworksCostMore : Type 0
NetworksCostMore =
    (p : Problem) → IsValid p → (v : CostOver) (n : Node) → IsPositive v → IsUnder p v n
    → (s : ℕ → Bool) → IsBetween (shape_of p) n.inside n.outside s
    → (z : ℕ → ℤ) (d : ℤ) → IsFlows (net_of p) s z d
    → (v.cost *ℤ d) ≤ℤ (cost (net_of p) s z d *ℤ v.d)

-- ---- what the tree then is

-- the tree is lean
abbrev pub KeptIsLean : Type 0
KeptIsLean =
    (p : Problem) (start : Node) (claim : Claim) (undercut : Option CostOver) (last : Option Node)
    (cells : List Cell) (order : List ℕ) → IsKeptFor p start claim undercut last cells
    → IsPreorder cells (0 ∷ []) order → IsLean p IsUntried undercut start (tree_of cells order)

-- if no leaf is open, and something is claimed that passes, the tree is accepted
abbrev pub WholeIsAccepted : Type 0
WholeIsAccepted =
    (p : Problem) (start : Node) (claim : Claim) (undercut : Option CostOver) (last : Option Node)
    (cells : List Cell) (order : List ℕ) → IsKeptFor p start claim undercut last cells
    → IsPreorder cells (0 ∷ []) order → ClaimPasses true p claim → (claim ≡ unknown → ⊥)
    → ((i : ℕ) → i < length cells → EndsOpen (cell_at cells i).end → ⊥)
    → IsAccepted p start claim (tree_of cells order)

-- if all open leaves are pending, and the nodes with the children that a least one may have are
-- more than the budget, the budget is spent
abbrev pub KeptIsSpent : Type 0
KeptIsSpent =
    (p : Problem) (start : Node) (claim : Claim) (undercut : Option CostOver) (last : Option Node)
    (cells : List Cell) (order : List ℕ) (at place count budget : ℕ) (w : Way)
    → IsKeptFor p start claim undercut last cells → IsPreorder cells (0 ∷ []) order
    → slice_get order place ≡ Some at
    → CanBranch p cells at w → IsLeastOpen p cells at
    → MayUndercut p undercut (place_of (cell_at cells at))
    → ((j : ℕ) → j < length cells → EndsOpen (cell_at cells j).end
    → IsPending p (place_of (cell_at cells j)))
    → IsNextCount (shape_of p) (place_of (cell_at cells at)) count → budget < length cells + count
    → IsSpent p IsUntried undercut start (tree_of cells order) place count budget

-- an open leaf is open at its place
abbrev pub OpenCellsStand : Type 0
OpenCellsStand =
    (p : Problem) (start : Node) (claim : Claim) (undercut : Option CostOver) (last : Option Node)
    (cells : List Cell) (order : List ℕ) (at place : ℕ)
    → IsKeptFor p start claim undercut last cells → IsPreorder cells (0 ∷ []) order
    → slice_get order place ≡ Some at
    → EndsOpen (cell_at cells at).end
    → IsOpenAt p IsUntried start (tree_of cells order) place (place_of (cell_at cells at))
