-- Why a search stops before its end: its budget of nodes is spent, or a number of the simplex
-- method overflows. `IsOpen` says which leaves are open. Each node is taken as its steps leave it.
use Rattle.std.specs.Prelude.{◌≡◌, ◌⊎◌, ℕ, ◌+◌, ◌<◌, true, List, [], ◌∷◌, length, Option, None}
use Rattle.flow_rules.specs.problem_rules.Problem.{Problem}
use Rattle.flow_rules.specs.pns_rules.Shape.{Shape, shape_of}
use Rattle.flow_rules.specs.pns_rules.Structure.{is_needed}
use Rattle.flow_rules.specs.pns_rules.Nodes.{Node, options}
use Rattle.flow_rules.specs.pns_rules.Ends.{IsSound, IsReduced, IsUndecided}
use Rattle.tree_rules.specs.Tree.{leaf, TreeNode, Stands}
use Rattle.tree_rules.specs.Claim.{CostOver}
use Rattle.tree_rules.specs.Lean.{MayUndercut, IsNoDearer}

-- leaf k is open, at the node n
pub record IsOpenAt {L : Type 0} (p : Problem) (IsOpen : L → Type 0) (start : Node)
    (tree : List (TreeNode L)) (k : ℕ) (n : Node) : Type 0 where
  pub what : L
  pub stands : Stands (shape_of p) (start ∷ []) tree k n (leaf what)
  pub is_open : IsOpen what

-- an open leaf that is worth branching: sound and reduced, with a material to decide, and with
-- relaxed flows
pub record IsPending (p : Problem) (n : Node) : Type 0 where
  pub sound : IsSound (shape_of p) n
  pub reduced : IsReduced (shape_of p) n
  pub undecided : (x : ℕ) × IsUndecided (shape_of p) n x
  pub relaxed : MayUndercut p None n

-- the next branch has so many children: two at one unit, or three at a material with three options
abbrev pub IsNextCount : Shape → Node → ℕ → Type 0
IsNextCount g n count = (count ≡ 2)
    ⊎ ((count ≡ 3) × ((x : ℕ) × (is_needed g n.inside x ≡ true) × (length (options g n x) ≡ 3)))

-- leaf `next` is branched next, into so many children; then there would be more nodes than the
-- budget
pub record IsSpent {L : Type 0} (p : Problem) (IsOpen : L → Type 0) (claimed : Option CostOver)
    (start : Node) (tree : List (TreeNode L)) (next count budget : ℕ) : Type 0 where
  pub pending : (k : ℕ) (n : Node) → IsOpenAt p IsOpen start tree k n → IsPending p n
  pub node : Node
  pub at_leaf : IsOpenAt p IsOpen start tree next node
  pub of_use : MayUndercut p claimed node
  pub least : (k : ℕ) (n : Node) → IsOpenAt p IsOpen start tree k n → IsNoDearer p node n
  pub count_is : IsNextCount (shape_of p) node count
  pub exceeds : budget < length tree + count

-- leaf k is open, sound and reduced, and a number of the simplex method overflows at its program,
-- which `Past` says of a node
pub record IsPast {L : Type 0} (p : Problem) (IsOpen : L → Type 0) (start : Node)
    (tree : List (TreeNode L)) (Past : Node → Type 0) (k : ℕ) : Type 0 where
  pub node : Node
  pub at_leaf : IsOpenAt p IsOpen start tree k node
  pub sound : IsSound (shape_of p) node
  pub reduced : IsReduced (shape_of p) node
  pub past : Past node
