-- Costs: one number over another, compared by cross products.
use Rattle.std.specs.Prelude.{ℤ, ◌*ℤ◌, ◌≤ℤ◌, Option, Some, None, ℕ, Bool}
use Rattle.flow_rules.specs.problem_rules.Problem.{Problem}
use Rattle.flow_rules.specs.Net.{net_of}
use Rattle.flow_rules.specs.Flows.{IsFlows, cost}
use Rattle.tree_rules.specs.Claim.{CostOver, IsAtLeast}

-- v is at most w
abbrev pub IsNoMore : CostOver → CostOver → Type 0
IsNoMore v w = (v.cost *ℤ w.d) ≤ℤ (w.cost *ℤ v.d)

-- the new cost is at most the old, and there is one if there was one
abbrev pub HasFallen : Option CostOver → Option CostOver → Type 0
HasFallen None new = Unit {0}
HasFallen (Some old) None = ⊥
HasFallen (Some old) (Some new) = IsNoMore new old

-- any flows for the units of s cost at least what is claimed; if no cost is claimed there are no
-- flows
abbrev pub CostsEnough : Problem → Option CostOver → (ℕ → Bool) → Type 0
CostsEnough p claimed s = (z : ℕ → ℤ) (d : ℤ) → IsFlows (net_of p) s z d
    → IsAtLeast claimed (cost (net_of p) s z d) d
