-- Claims: a network with its cost, that no network has flows, or nothing. If a claim fails, the
-- first line of its table that does not hold gives the cause.
use Rattle.std.specs.Prelude.{◌≡◌, ℕ, ℤ, pos, ◌*ℤ◌, ◌≤ℤ◌, Bool, true, List, length, Option, Some}
use Rattle.std.specs.Prelude.{None}
use Rattle.flow_rules.specs.number_sets.Sets.{has, IsSet}
use Rattle.flow_rules.specs.problem_rules.Problem.{Problem}
use Rattle.flow_rules.specs.pns_rules.Shape.{shape_of}
use Rattle.flow_rules.specs.pns_rules.Structure.{IsStructure, IsAllowed}
use Rattle.flow_rules.specs.Net.{net_of, beside}
use Rattle.flow_rules.specs.Flows.{IsFlows, cost}
use Rattle.flow_rules.specs.Steps.{AreInRange}
use Rattle.flow_rules.specs.CostSteps.{cost_steps}
use Rattle.flow_rules.specs.FeasibleSteps.{feasible_steps}
use Rattle.tree_rules.specs.declared.why.Why.{Why}
use Rattle.tree_rules.specs.declared.why.Why.TheVariants.{Unknown, Axiom, Exclusion, Flows, Cost}
use Rattle.tree_rules.specs.declared.why.Why.TheVariants.{Sum}
use Rattle.tree_rules.specs.Fault.{Fails}

-- units with their sizes and the cost, all numbers over d: the size of a unit is its number over d
-- in millionths; the cost over d and the payout period is in 10^-18 of the money unit
pub record Network : Type 0 where
  pub units : List ℕ
  pub sizes : List ℤ
  pub d : ℤ
  pub cost : ℤ

-- what the type of networks keeps: a set of units, one size for each, and d at least 1
pub record IsSized (w : Network) : Type 0 where
  pub unit_set : IsSet 128 w.units
  pub one_size : length w.sizes ≡ length w.units
  pub positive : pos 1 ≤ℤ w.d

-- the size of each unit; 0 for a unit that is not in the network
abbrev pub size_in : Network → ℕ → ℤ
size_in w = beside w.units w.sizes

pub data Claim : Type 0 where
  network : Network → Claim
  infeasible : Claim
  unknown : Claim

-- ---- the claimed cost

pub record CostOver : Type 0 where
  pub cost : ℤ
  pub d : ℤ

-- there is one if a network is claimed
abbrev pub claimed_cost : Claim → Option CostOver
claimed_cost (network w) = Some (record { cost = w.cost; d = w.d })
claimed_cost infeasible = None
claimed_cost unknown = None

-- the number over d is at least the claimed cost; if no cost is claimed, no number is
abbrev pub IsAtLeast : Option CostOver → ℤ → ℤ → Type 0
IsAtLeast None n d = ⊥
IsAtLeast (Some claimed) n d = (claimed.cost *ℤ d) ≤ℤ (n *ℤ claimed.d)

-- the number over d is at most the claimed cost; if no cost is claimed, each number is
abbrev pub IsAtMost : Option CostOver → ℤ → ℤ → Type 0
IsAtMost None n d = Unit {0}
IsAtMost (Some claimed) n d = (n *ℤ claimed.d) ≤ℤ (claimed.cost *ℤ d)

-- ---- which claims pass

-- the units are a clash-free solution structure, the sizes are flows for them, and the cost is that
-- of the flows; all numbers that the two sums form are in range
pub record IsFeasible (p : Problem) (w : Network) : Type 0 where
  pub structure : IsStructure (shape_of p) (has w.units)
  pub allowed : IsAllowed (shape_of p) (has w.units)
  pub balances : AreInRange (feasible_steps (net_of p) (has w.units) (size_in w) w.d)
  pub flows : IsFlows (net_of p) (has w.units) (size_in w) w.d
  pub costs : AreInRange (cost_steps (net_of p) (has w.units) (size_in w) w.d)
  pub cost_is : cost (net_of p) (has w.units) (size_in w) w.d ≡ w.cost

-- with a partial tree nothing may be claimed
abbrev pub ClaimPasses : Bool → Problem → Claim → Type 0
ClaimPasses partial p (network w) = IsFeasible p w
ClaimPasses partial p infeasible = Unit {0}
ClaimPasses partial p unknown = partial ≡ true

-- ---- which fail, and why

abbrev pub ClaimFails : Bool → Problem → Claim → Why → Type 0
ClaimFails partial p (network w) why =
    Fails (IsStructure (shape_of p) (has w.units)) Axiom
    (Fails (IsAllowed (shape_of p) (has w.units)) Exclusion
    (Fails (AreInRange (feasible_steps (net_of p) (has w.units) (size_in w) w.d)) Sum
    (Fails (IsFlows (net_of p) (has w.units) (size_in w) w.d) Flows
    (Fails (AreInRange (cost_steps (net_of p) (has w.units) (size_in w) w.d)) Sum
    (Fails (cost (net_of p) (has w.units) (size_in w) w.d ≡ w.cost) Cost ⊥ why) why) why) why) why)
    why
ClaimFails partial p infeasible why = ⊥
ClaimFails partial p unknown why = Fails (partial ≡ true) Unknown ⊥ why
