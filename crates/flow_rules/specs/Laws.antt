-- Laws of the definitions, each the contract of a public function of this crate. Each holds for
-- every valid problem, for every node (the units that are taken in and left out), and for any
-- multipliers.
use Rattle.std.specs.Prelude.{◌≡◌, ℕ, ◌<◌, ℤ, pos, ◌*ℤ◌, ◌≤ℤ◌, ◌<ℤ◌, Bool, length}
use Rattle.pns_rules.specs.problem_rules.Problem.{Problem}
use Rattle.pns_rules.specs.problem_rules.Validity.{IsValid}
use Rattle.pns_rules.specs.Shape.{shape_of}
use Rattle.pns_rules.specs.Structure.{IsBetween}
use Rattle.pns_rules.specs.Nodes.{Node}
use Rattle.flow_rules.specs.Net.{net_of, million}
use Rattle.flow_rules.specs.Flows.{IsFlows, balance, cost}
use Rattle.flow_rules.specs.Relaxed.{IsRelaxed, relaxed_cost, slope, unit_cost, reduced_cost, bound}
use Rattle.flow_rules.specs.Relaxed.{Refutes}
use Rattle.flow_rules.specs.Steps.{last_from}
use Rattle.flow_rules.specs.BoundSteps.{rows_at, reduced_steps, bound_steps}
use Rattle.flow_rules.specs.CostSteps.{cost_steps}
use Rattle.flow_rules.specs.FeasibleSteps.{units_at, balance_steps}

-- ---- relaxed flows

-- no relaxed flows of a node cost less than a bound of it, compared by cross products
abbrev pub RelaxedDuality : Type 0
RelaxedDuality =
    (p : Problem) (n : Node) (z : ℕ → ℤ) (d : ℤ) → IsRelaxed (net_of p) n z d → (scale : ℤ)
    → pos 0 ≤ℤ scale → (y : ℕ → ℤ)
    → (d *ℤ bound (net_of p) n scale y) ≤ℤ (scale *ℤ relaxed_cost (net_of p) n z d)

-- flows for a solution structure, clash-free or not, that has the units taken in and none that is
-- left out, are relaxed flows
abbrev pub FlowsAreRelaxed : Type 0
FlowsAreRelaxed =
    (p : Problem) → IsValid p → (n : Node) (s : ℕ → Bool)
    → IsBetween (shape_of p) n.inside n.outside s
    → (z : ℕ → ℤ) (d : ℤ) → IsFlows (net_of p) s z d → IsRelaxed (net_of p) n z d

-- these cost no more than the flows
abbrev pub RelaxedCostsLess : Type 0
RelaxedCostsLess =
    (p : Problem) → IsValid p → (n : Node) (s : ℕ → Bool)
    → IsBetween (shape_of p) n.inside n.outside s
    → (z : ℕ → ℤ) (d : ℤ) → IsFlows (net_of p) s z d
    → relaxed_cost (net_of p) n z d ≤ℤ cost (net_of p) s z d

-- the slope of a unit times its upper bound is at most its fixed cost, and no greater number is
abbrev pub SlopeIsGreatest : Type 0
SlopeIsGreatest =
    (p : Problem) → IsValid p → (i : ℕ) → i < length p.units → pos 0 <ℤ (net_of p).most i
    → ((slope (net_of p) i *ℤ (net_of p).most i) ≤ℤ ((net_of p).fix i *ℤ million))
    × ((k : ℤ) → (k *ℤ (net_of p).most i) ≤ℤ ((net_of p).fix i *ℤ million)
    → k ≤ℤ slope (net_of p) i)

-- ---- weak duality

-- no flows for a solution structure, clash-free or not, that has the units taken in and none that
-- is left out, cost less than a bound of the node, compared by cross products
abbrev pub WeakDuality : Type 0
WeakDuality =
    (p : Problem) → IsValid p → (n : Node) (s : ℕ → Bool)
    → IsBetween (shape_of p) n.inside n.outside s
    → (z : ℕ → ℤ) (d : ℤ) → IsFlows (net_of p) s z d → (scale : ℤ) → pos 0 ≤ℤ scale → (y : ℕ → ℤ)
    → (d *ℤ bound (net_of p) n scale y) ≤ℤ (scale *ℤ cost (net_of p) s z d)

-- if a node is refuted, no such structure has flows
abbrev pub RefutationHolds : Type 0
RefutationHolds =
    (p : Problem) → IsValid p → (n : Node) (y : ℕ → ℤ) → Refutes (net_of p) n y
    → (s : ℕ → Bool) → IsBetween (shape_of p) n.inside n.outside s → (z : ℕ → ℤ) (d : ℤ)
    → IsFlows (net_of p) s z d → ⊥

-- nor has the node relaxed flows
abbrev pub RefutedIsEmpty : Type 0
RefutedIsEmpty = (p : Problem) (n : Node) (y : ℕ → ℤ) → Refutes (net_of p) n y → (z : ℕ → ℤ) (d : ℤ)
    → IsRelaxed (net_of p) n z d → ⊥

-- ---- steps

-- the last step of a bound is the bound, and the last of a cost is the cost; it is 0 if there are
-- no units
abbrev pub BoundIsLast : Type 0
BoundIsLast = (p : Problem) (n : Node) (scale : ℤ) (y : ℕ → ℤ)
    → last_from (pos 0) (bound_steps (net_of p) n scale y) ≡ bound (net_of p) n scale y

abbrev pub CostIsLast : Type 0
CostIsLast = (p : Problem) (s : ℕ → Bool) (z : ℕ → ℤ) (d : ℤ)
    → last_from (pos 0) (cost_steps (net_of p) s z d) ≡ cost (net_of p) s z d

-- the last step of a reduced cost is the reduced cost, and the last of a balance is the balance:
-- rates that are 0 add nothing
abbrev pub ReducedIsLast : Type 0
ReducedIsLast =
    (p : Problem) (n : Node) (scale : ℤ) (y : ℕ → ℤ) (i : ℕ)
    → last_from (scale *ℤ unit_cost (net_of p) n i)
    (reduced_steps y (λ j. (net_of p).rate j i) (rows_at (net_of p) n i)
    (scale *ℤ unit_cost (net_of p) n i))
    ≡ reduced_cost (net_of p) n scale y i

abbrev pub BalanceIsLast : Type 0
BalanceIsLast =
    (p : Problem) (s : ℕ → Bool) (z : ℕ → ℤ) (j : ℕ)
    → last_from (pos 0) (balance_steps (net_of p) z j (units_at (net_of p) s j) (pos 0))
    ≡ balance (net_of p) s z j
