-- What is kept by facts that are found: no clash-free structure is lost that may cost less than
-- what is claimed.
use Rattle.std.specs.Prelude.{ℕ, ℤ, ◌*ℤ◌, ◌<ℤ◌, Bool, Option, Some, None}
use Rattle.flow_rules.specs.problem_rules.Problem.{Problem}
use Rattle.flow_rules.specs.pns_rules.Shape.{shape_of}
use Rattle.flow_rules.specs.pns_rules.Structure.{InFamily}
use Rattle.flow_rules.specs.pns_rules.Nodes.{Node}
use Rattle.flow_rules.specs.Net.{net_of}
use Rattle.flow_rules.specs.Flows.{IsFlows, cost}
use Rattle.flow_rules.specs.ChargeFacts.{Facts, Fit}
use Rattle.tree_rules.specs.Claim.{CostOver}
use Rattle.tree_rules.specs.Head.{Known}

-- the number over d is below the claimed cost; if no cost is claimed, each number is
abbrev pub IsBelow : Option CostOver → ℤ → ℤ → Type 0
IsBelow None n d = Unit {0}
IsBelow (Some claimed) n d = (n *ℤ claimed.d) <ℤ (claimed.cost *ℤ d)

-- flows for the units of s that cost less than what is claimed; any flows, if no cost is
pub record Undercuts
    (p : Problem) (claimed : Option CostOver) (s : ℕ → Bool) (z : ℕ → ℤ) (d : ℤ) : Type 0 where
  pub flows : IsFlows (net_of p) s z d
  pub cheaper : IsBelow claimed (cost (net_of p) s z d) d

-- s has such flows that fit the facts
pub record MayFit
    (p : Problem) (claimed : Option CostOver) (s : ℕ → Bool) (f : Facts) : Type 0 where
  pub sizes : ℕ → ℤ
  pub d : ℤ
  pub undercuts : Undercuts p claimed s sizes d
  pub fit : Fit (net_of p) f s sizes d

-- each clash-free structure of the start that has such flows is in the family of the node, and
-- has such flows that fit the facts
abbrev pub Keeps : Problem → Option CostOver → Node → Known → Type 0
Keeps p claimed start k =
    (s : ℕ → Bool) → InFamily (shape_of p) start.inside start.outside s
    → (z : ℕ → ℤ) (d : ℤ) → Undercuts p claimed s z d
    → InFamily (shape_of p) k.node.inside k.node.outside s × MayFit p claimed s k.facts
