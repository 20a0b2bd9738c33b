use Rattle.std.specs.Prelude.{[], ◌∷◌}
use Rattle.tree_laws.specs.pns_rules.Shape.{shape_of}
use Rattle.tree_laws.specs.tree_rules.Leaf.{LeafPasses}
use Rattle.tree_laws.specs.tree_rules.Claim.{claimed_cost}
use Rattle.search_tree.proofs.PassLemmas.{nodes_are_cells, cells_stand, aligned_start}
use Rattle.search_tree.proofs.laws.cells_stand.Goals as goal

pub returns-clause-nodes : goal.returns-clause-nodes
returns-clause-nodes c = λ partial p start claim cells order grown preorder k n e s.
    nodes_are_cells (shape_of p) (LeafPasses partial p (claimed_cost claim)) start cells
    grown.linked grown.fits (start ∷ []) (0 ∷ []) order
    (aligned_start (shape_of p) (LeafPasses partial p (claimed_cost claim)) start cells grown.linked
    grown.fits) preorder k n e s

pub returns-clause-cells : goal.returns-clause-cells
returns-clause-cells c = λ partial p start claim cells order grown preorder k i h.
    cells_stand (shape_of p) (LeafPasses partial p (claimed_cost claim)) start cells grown.linked
    grown.fits (start ∷ []) (0 ∷ []) order
    (aligned_start (shape_of p) (LeafPasses partial p (claimed_cost claim)) start cells grown.linked
    grown.fits) preorder k i h
