-- Laws of growing trees, each of which a public function of this crate has as its contract.
use Rattle.std.specs.Prelude.{◌≡◌, ℕ, ◌<◌, Bool, List, [], ◌∷◌, length, Some}
use Rattle.std.specs.List.{slice_get}
use Rattle.tree_laws.specs.problem_rules.Problem.{Problem}
use Rattle.tree_laws.specs.pns_rules.Shape.{shape_of}
use Rattle.tree_laws.specs.pns_rules.Nodes.{Node}
use Rattle.tree_laws.specs.tree_rules.Tree.{End, IsTree, Stands}
use Rattle.tree_laws.specs.tree_rules.Leaf.{Leaf, LeafPasses}
use Rattle.tree_laws.specs.tree_rules.Claim.{Claim, claimed_cost, ClaimPasses}
use Rattle.tree_laws.specs.tree_rules.Accepted.{Proves}
use Rattle.search_tree.specs.Cells.{Cell, place_of, cell_at, IsLinked}
use Rattle.search_tree.specs.Preorder.{IsPreorder, tree_of}
use Rattle.search_tree.specs.Fits.{Fits}

-- ---- linked cells

-- the cells in preorder are one whole tree
abbrev pub PreorderIsTree : Type 0
PreorderIsTree = (cells : List Cell) (order : List ℕ) → IsLinked cells
    → (cell_at cells 0).option ≡ [] → IsPreorder cells (0 ∷ []) order → IsTree (tree_of cells order)

-- of as many nodes as there are cells
abbrev pub PreorderHasAll : Type 0
PreorderHasAll = (cells : List Cell) (order : List ℕ) → IsLinked cells
    → IsPreorder cells (0 ∷ []) order → length order ≡ length cells

-- ---- linked cells that fit, each at its leaf for what is claimed

pub record IsGrown (partial : Bool) (p : Problem) (start : Node) (claim : Claim)
    (cells : List Cell) : Type 0 where
  pub linked : IsLinked cells
  pub fits : Fits (shape_of p) (LeafPasses partial p (claimed_cost claim)) start cells

-- the tree of cells that fit proves the claim, if the claim passes
abbrev pub PreorderProves : Type 0
PreorderProves =
    (partial : Bool) (p : Problem) (start : Node) (claim : Claim) (cells : List Cell)
    (order : List ℕ) → IsGrown partial p start claim cells
    → ClaimPasses partial p claim → IsPreorder cells (0 ∷ []) order
    → Proves partial p start claim (tree_of cells order)

-- a node with its end is a cell's
pub record IsCell (cells : List Cell) (n : Node) (e : End Leaf) : Type 0 where
  pub number : ℕ
  pub there : number < length cells
  pub node_is : place_of (cell_at cells number) ≡ n
  pub end_is : (cell_at cells number).end ≡ e

-- each place of the tree has the node and the end of a cell
abbrev pub NodesAreCells : Type 0
NodesAreCells =
    (partial : Bool) (p : Problem) (start : Node) (claim : Claim) (cells : List Cell)
    (order : List ℕ) → IsGrown partial p start claim cells
    → IsPreorder cells (0 ∷ []) order → (k : ℕ) (n : Node) (e : End Leaf)
    → Stands (shape_of p) (start ∷ []) (tree_of cells order) k n e → IsCell cells n e

-- and the place of a cell has its node with its end
abbrev pub CellsStand : Type 0
CellsStand =
    (partial : Bool) (p : Problem) (start : Node) (claim : Claim) (cells : List Cell)
    (order : List ℕ) → IsGrown partial p start claim cells
    → IsPreorder cells (0 ∷ []) order → (k i : ℕ) → slice_get order k ≡ Some i
    → Stands (shape_of p) (start ∷ []) (tree_of cells order) k (place_of (cell_at cells i))
    (cell_at cells i).end
