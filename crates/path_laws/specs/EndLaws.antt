-- Laws of what is read off at the end of a path, each the contract of a public function of this
-- crate. Costs and bounds over different denominators are compared by cross products.
use Rattle.std.specs.Prelude.{◌≡◌, ℕ, ℤ, pos, ◌*ℤ◌, ◌≤ℤ◌, List}
use Rattle.flow_rules.specs.problem_rules.Problem.{Problem}
use Rattle.flow_rules.specs.problem_rules.Validity.{IsValid}
use Rattle.flow_rules.specs.pns_rules.Nodes.{Node}
use Rattle.flow_rules.specs.Net.{net_of, beside}
use Rattle.flow_rules.specs.Flows.{IsFlows, cost}
use Rattle.flow_rules.specs.Relaxed.{IsRelaxed, relaxed_cost, bound, Refutes, units, rows}
use Rattle.flow_rules.specs.LinearProgram.{linear}
use Rattle.flow_rules.specs.Columns.{Basis}
use Rattle.flow_rules.specs.ReadFlows.{AreRead}
use Rattle.path_laws.specs.Ends.{EndsLeast, EndsNone, IsSplit}

-- ---- least flows

-- the scale of the multipliers is at least 1
abbrev pub ScaleIsPositive : Type 0
ScaleIsPositive = (p : Problem) → IsValid p
    → (n : Node) (b : Basis) (T : ℕ → ℕ → ℤ) (d : ℤ) (ys : List ℤ) → EndsLeast (net_of p) n b T d ys
    → pos 1 ≤ℤ d

-- their bound, over the scale, is the cost of some relaxed flows
abbrev pub BoundIsReached : Type 0
BoundIsReached =
    (p : Problem) → IsValid p → (n : Node) (b : Basis) (T : ℕ → ℕ → ℤ) (d : ℤ) (ys : List ℤ)
    → EndsLeast (net_of p) n b T d ys
    → (z : ℕ → ℤ) × (e : ℤ) × IsRelaxed (net_of p) n z e
    × (e *ℤ bound (net_of p) n d (beside (rows (net_of p) n) ys)
    ≡ d *ℤ relaxed_cost (net_of p) n z e)

-- and at most that of all
abbrev pub BoundIsLeast : Type 0
BoundIsLeast =
    (p : Problem) → IsValid p → (n : Node) (b : Basis) (T : ℕ → ℕ → ℤ) (d : ℤ) (ys : List ℤ)
    → EndsLeast (net_of p) n b T d ys
    → (z : ℕ → ℤ) (e : ℤ) → IsRelaxed (net_of p) n z e
    → (e *ℤ bound (net_of p) n d (beside (rows (net_of p) n) ys))
    ≤ℤ (d *ℤ relaxed_cost (net_of p) n z e)

-- the flows that are read off are such relaxed flows
abbrev pub ReadFlowsAreRelaxed : Type 0
ReadFlowsAreRelaxed =
    (p : Problem) → IsValid p → (n : Node) (b : Basis) (T : ℕ → ℕ → ℤ) (d : ℤ) (ys : List ℤ)
    → EndsLeast (net_of p) n b T d ys
    → (zs : List ℤ) (e : ℤ) → AreRead (linear (net_of p) n) b T zs e
    → IsRelaxed (net_of p) n (beside (units (net_of p) n) zs) e

-- of that cost
abbrev pub ReadFlowsAreLeast : Type 0
ReadFlowsAreLeast =
    (p : Problem) → IsValid p → (n : Node) (b : Basis) (T : ℕ → ℕ → ℤ) (d : ℤ) (ys : List ℤ)
    → EndsLeast (net_of p) n b T d ys
    → (zs : List ℤ) (e : ℤ) → AreRead (linear (net_of p) n) b T zs e
    → e *ℤ bound (net_of p) n d (beside (rows (net_of p) n) ys)
    ≡ d *ℤ relaxed_cost (net_of p) n (beside (units (net_of p) n) zs) e

-- ---- if each unit is either taken in or left out

-- relaxed flows with no size for other units are flows for the units that are taken in
abbrev pub RelaxedAreFlows : Type 0
RelaxedAreFlows =
    (p : Problem) (n : Node) → IsSplit (net_of p) n → (zs : List ℤ) (d : ℤ)
    → IsRelaxed (net_of p) n (beside (units (net_of p) n) zs) d
    → IsFlows (net_of p) n.inside (beside (units (net_of p) n) zs) d

-- and their cost is the relaxed cost
abbrev pub RelaxedCostIsCost : Type 0
RelaxedCostIsCost = (p : Problem) (n : Node) → IsSplit (net_of p) n → (z : ℕ → ℤ) (d : ℤ)
    → cost (net_of p) n.inside z d ≡ relaxed_cost (net_of p) n z d

-- ---- no flows

-- the multipliers of a row that can't be met refute the node
abbrev pub RowRefutes : Type 0
RowRefutes =
    (p : Problem) → IsValid p → (n : Node) (b : Basis) (T : ℕ → ℕ → ℤ) (row : ℕ) (ys : List ℤ)
    → EndsNone (net_of p) n b T row ys
    → Refutes (net_of p) n (beside (rows (net_of p) n) ys)
