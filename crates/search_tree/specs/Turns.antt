-- The steps of a turn: a leaf is branched, or open leaves get other ends.
use Rattle.std.specs.Prelude.{◌≡◌, ◌⊎◌, ℕ, ◌+◌, ◌<◌, true, List, length, map, Option}
use Rattle.tree_laws.specs.problem_rules.Problem.{Problem}
use Rattle.tree_laws.specs.pns_rules.Shape.{shape_of}
use Rattle.tree_laws.specs.pns_rules.Nodes.{Node}
use Rattle.tree_laws.specs.pns_rules.Ends.{IsSound, IsDead, IsNever, IsReduced}
use Rattle.tree_laws.specs.tree_rules.Ways.{Way, width, MayBranch, options_at, child_at, IsDecision}
use Rattle.tree_laws.specs.tree_rules.Tree.{End, branch, leaf}
use Rattle.tree_laws.specs.tree_rules.Leaf.{Leaf, LeafPasses}
use Rattle.tree_laws.specs.tree_rules.Claim.{CostOver}
use Rattle.tree_laws.specs.tree_rules.Lean.{IsNoDearer}
use Rattle.search_tree.specs.Cells.{Cell, place_of, cell_at}
use Rattle.search_tree.specs.Growth.{EndsOpen}
use Rattle.search_tree.specs.Fits.{Follows}

-- ---- a leaf is branched

-- leaf `at` can be branched in this way: it is reduced, and the way decides something there
pub record CanBranch (p : Problem) (cells : List Cell) (at : ℕ) (w : Way) : Type 0 where
  pub there : at < length cells
  pub is_open : EndsOpen (cell_at cells at).end
  pub reduced : IsReduced (shape_of p) (place_of (cell_at cells at))
  pub may : MayBranch (shape_of p) (place_of (cell_at cells at)) w
  pub splits : IsDecision (shape_of p) (place_of (cell_at cells at)) w

-- the leaf costs no more than any other open leaf
abbrev pub IsLeastOpen : Problem → List Cell → ℕ → Type 0
IsLeastOpen p cells at =
    (j : ℕ) → j < length cells → (j ≡ at → ⊥) → EndsOpen (cell_at cells j).end
    → IsNever (IsDead (shape_of p) (place_of (cell_at cells j)))
    → IsNoDearer p (place_of (cell_at cells at)) (place_of (cell_at cells j))

-- a child of the node: a leaf that passes at the node to which its steps lead
pub record IsFreshChild (p : Problem) (claimed : Option CostOver) (n : Node) (w : Way)
    (c : Cell) : Type 0 where
  pub follows : Follows (shape_of p) (child_at (shape_of p) n w c.option) c
  pub sound : IsSound (shape_of p) (place_of c)
  pub what : Leaf
  pub end_is : c.end ≡ leaf what
  pub passes : LeafPasses true p claimed (place_of c) what

-- the children have all options of the way, in order
pub record AreChildren (p : Problem) (claimed : Option CostOver) (n : Node) (w : Way)
    (children : List Cell) : Type 0 where
  pub options_are : map (λ (c : Cell). c.option) children ≡ options_at (shape_of p) n w
  pub each : (k : ℕ) → k < length children → IsFreshChild p claimed n w (cell_at children k)

-- the cell with another first child, end and key
abbrev pub with_end : Cell → ℕ → End Leaf → ℕ → Cell
with_end c first end key =
    record {
      option = c.option;
      steps = c.steps;
      node = c.node;
      first = first;
      end = end;
      key =
          key;
    }

-- the children, as many as the way has, follow the other cells, and the leaf is a branch
pub record IsBranched (old children new : List Cell) (at : ℕ) (w : Way) : Type 0 where
  pub wide : width w ≡ length children
  pub len : length new ≡ length old + length children
  pub others : (j : ℕ) → j < length old → (j ≡ at → ⊥) → cell_at new j ≡ cell_at old j
  pub key : ℕ
  pub at_is : cell_at new at ≡ with_end (cell_at old at) (length old) (branch w) key
  pub children_are : (k : ℕ) → k < length children
      → cell_at new (length old + k) ≡ cell_at children k

-- ---- open leaves get other ends

-- an open leaf is shut as another leaf that passes, or stays open with a bound that does
pub record IsShut (p : Problem) (claimed : Option CostOver) (old new : Cell) : Type 0 where
  pub was_open : EndsOpen old.end
  pub what : Leaf
  pub passes : LeafPasses true p claimed (place_of old) what
  pub key : ℕ
  pub new_is : new ≡ with_end old old.first (leaf what) key

-- each cell stays or gets such an end
pub record AreShut (p : Problem) (claimed : Option CostOver) (old new : List Cell) : Type 0 where
  pub len : length new ≡ length old
  pub each : (j : ℕ) → j < length old → (cell_at new j ≡ cell_at old j)
      ⊎ IsShut p claimed (cell_at old j) (cell_at new j)
