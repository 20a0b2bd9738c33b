use Rattle.std.proofs.Common.{[], ◌∷◌}
use Rattle.tree_rules.specs.pns_rules.Shape.{shape_of}
use Rattle.tree_rules.specs.Claim.{claimed_cost}
use Rattle.tree_rules.specs.Leaf.{LeafPasses, LeafFails}
use Rattle.tree_laws.proofs.FaultLemmas.{leaf_rules, tree_passes, tree_one}
use Rattle.tree_laws.proofs.faults.tree_has_one_fault.Goals as goal

pub returns-clause-passes : goal.returns-clause-passes
returns-clause-passes c = λ partial p start claim tree k why a f.
    tree_passes (shape_of p) (LeafPasses partial p (claimed_cost claim))
    (LeafFails partial p (claimed_cost claim))
    (leaf_rules partial p (claimed_cost claim))
    (start ∷ []) tree k why a.passes f

pub returns-clause-one : goal.returns-clause-one
returns-clause-one c = λ partial p start claim tree j k why other f e.
    tree_one (shape_of p) (LeafPasses partial p (claimed_cost claim))
    (LeafFails partial p (claimed_cost claim))
    (leaf_rules partial p (claimed_cost claim))
    (start ∷ []) tree j k why other f e
