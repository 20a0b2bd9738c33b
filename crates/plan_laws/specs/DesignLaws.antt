-- The laws of designs and of networks of the expanded problem. Each is the contract of a public
-- function of this crate, and holds for every valid problem and every plan for it.
use Rattle.std.specs.Prelude.{◌≡◌, ℕ, ◌<◌, ℤ, Bool, true, length}
use Rattle.plan_rules.specs.number_sets.Sets.{any_below}
use Rattle.plan_rules.specs.problem_rules.Problem.{Problem}
use Rattle.plan_rules.specs.problem_rules.Validity.{IsValid}
use Rattle.plan_rules.specs.pns_rules.Shape.{shape_of}
use Rattle.plan_rules.specs.pns_rules.Structure.{IsStructure, IsAllowed}
use Rattle.plan_rules.specs.flow_rules.Net.{net_of}
use Rattle.plan_rules.specs.flow_rules.Flows.{IsFlows, cost}
use Rattle.plan_rules.specs.Expanded.{expanded}
use Rattle.plan_rules.specs.Plan.{Plan, IsPlan}
use Rattle.plan_rules.specs.Design.{Design, IsDesign, design_cost}
use Rattle.plan_rules.specs.tree_rules.Claim.{Network, network, infeasible, claimed_cost}
use Rattle.plan_rules.specs.tree_rules.Claim.{IsFeasible}
use Rattle.plan_rules.specs.tree_rules.Costs.{CostsEnough}
use Rattle.plan_rules.specs.Folded.{running_number, folded}
use Rattle.plan_rules.specs.Least.{IsLeastDesign, HasNoDesign}

-- ---- structures

-- The units that run in each period are those of the set. The set has no other units than those of
-- the expanded problem, and each period no others than those of the plant.
pub record Runs (p : Problem) (plan : Plan) (s : ℕ → Bool) (runs : ℕ → ℕ → Bool) : Type 0 where
  pub running : (t i : ℕ) → t < length plan.periods → i < length p.units
      → s (running_number p t i) ≡ runs t i
  pub run_known : (t i : ℕ) → t < length plan.periods → runs t i ≡ true → i < length p.units
  pub known : (k : ℕ) → s k ≡ true → k < length (expanded p plan).units

-- the units that build are those that run in some period
abbrev pub BuildsUnion : Problem → Plan → (ℕ → Bool) → (ℕ → ℕ → Bool) → Type 0
BuildsUnion p plan s runs = (i : ℕ) → i < length p.units
    → s i ≡ any_below (length plan.periods) (λ t. runs t i)

-- a solution structure for each period, and the units that build their union, are a solution
-- structure of the expanded problem
abbrev pub FamiliesAreStructures : Type 0
FamiliesAreStructures =
    (p : Problem) (plan : Plan) → IsValid p → IsPlan p plan → (s : ℕ → Bool) (runs : ℕ → ℕ → Bool)
    → Runs p plan s runs
    → ((t : ℕ) → t < length plan.periods → IsStructure (shape_of p) (runs t))
    → BuildsUnion p plan s runs → IsStructure (shape_of (expanded p plan)) s

-- and each solution structure of it is such a family
abbrev pub StructuresAreFamilies : Type 0
StructuresAreFamilies =
    (p : Problem) (plan : Plan) → IsValid p → IsPlan p plan → (s : ℕ → Bool) (runs : ℕ → ℕ → Bool)
    → Runs p plan s runs
    → IsStructure (shape_of (expanded p plan)) s
    → ((t : ℕ) → t < length plan.periods → IsStructure (shape_of p) (runs t))
    × BuildsUnion p plan s runs

-- ---- designs

-- a network of the expanded problem at the cost of a design
pub record HasNetwork (p : Problem) (plan : Plan) (y : Design) : Type 0 where
  pub units : ℕ → Bool
  pub sizes : ℕ → ℤ
  pub structure : IsStructure (shape_of (expanded p plan)) units
  pub allowed : IsAllowed (shape_of (expanded p plan)) units
  pub flows : IsFlows (net_of (expanded p plan)) units sizes y.d
  pub costs : cost (net_of (expanded p plan)) units sizes y.d ≡ design_cost p plan y

-- each design is such a network
abbrev pub DesignsAreNetworks : Type 0
DesignsAreNetworks = (p : Problem) (plan : Plan) → IsValid p → IsPlan p plan → (y : Design)
    → IsDesign p plan y → HasNetwork p plan y

-- so if no clash-free solution structure of the expanded problem has flows, the plant has no design
abbrev pub NoNetworkIsNoDesign : Type 0
NoNetworkIsNoDesign =
    (p : Problem) (plan : Plan) → IsValid p → IsPlan p plan
    → ((s : ℕ → Bool) → IsStructure (shape_of (expanded p plan)) s
    → IsAllowed (shape_of (expanded p plan)) s
    → CostsEnough (expanded p plan) (claimed_cost infeasible) s)
    → HasNoDesign p plan

-- and each network that is feasible there is a design at its cost; if no network undercuts it, no
-- design does
abbrev pub LeastNetworkIsLeastDesign : Type 0
LeastNetworkIsLeastDesign =
    (p : Problem) (plan : Plan) → IsValid p → IsPlan p plan → (w : Network)
    → IsFeasible (expanded p plan) w
    → ((s : ℕ → Bool) → IsStructure (shape_of (expanded p plan)) s
    → IsAllowed (shape_of (expanded p plan)) s
    → CostsEnough (expanded p plan) (claimed_cost (network w)) s)
    → IsLeastDesign p plan (folded p plan w)
