use Rattle.std.specs.Prelude.{[], ◌∷◌}
use Rattle.tree_laws.specs.pns_rules.Shape.{shape_of}
use Rattle.tree_laws.specs.tree_rules.Leaf.{LeafPasses}
use Rattle.tree_laws.specs.tree_rules.Claim.{claimed_cost}
use Rattle.search_tree.proofs.PassLemmas.{passes, aligned_start}
use Rattle.search_tree.proofs.laws.preorder_proves.Goals as goal

pub returns : goal.returns
returns c = λ partial p start claim cells order grown claimed preorder. record {
  claimed = claimed;
  passes =
      passes (shape_of p) (LeafPasses partial p (claimed_cost claim)) start cells grown.linked
      grown.fits (start ∷ []) (0 ∷ []) order
      (aligned_start (shape_of p) (LeafPasses partial p (claimed_cost claim)) start cells
      grown.linked grown.fits) preorder;
}
