-- Nodes whose charge reaches what is claimed, with facts that are known of the flows.
use Rattle.std.specs.Prelude.{ℤ, List, Option}
use Rattle.flow_rules.specs.problem_rules.Problem.{Problem}
use Rattle.flow_rules.specs.pns_rules.Nodes.{Node}
use Rattle.flow_rules.specs.ChargeFacts.{Facts}
use Rattle.flow_rules.specs.Cover.{Cover}
use Rattle.flow_rules.specs.ChargeLeaf.{Handed, ChargePasses}
use Rattle.tree_rules.specs.Claim.{CostOver, IsAtLeast}
use Rattle.tree_rules.specs.Leaf.{IsClaimed}

abbrev pub handed : ℤ → List ℤ → List Cover → Handed
handed d ys covers = record { d = d; ys = ys; covers = covers }

-- a leaf with these passes at the node
abbrev pub IsCharged : Problem → Option CostOver → Node → Facts → ℤ → List ℤ → List Cover → Type 0
IsCharged p claimed n f d ys covers =
    ChargePasses p (IsClaimed claimed) (IsAtLeast claimed) n f (handed d ys covers)
