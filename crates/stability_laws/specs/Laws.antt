-- The laws of values in a spot. Each is the contract of a public function of this crate.
use Rattle.std.specs.Prelude.{◌≡◌, ℕ, ℤ, ◌+ℤ◌, ◌*ℤ◌, ◌≤ℤ◌, Bool}
use Rattle.report_rules.specs.number_sets.Sets.{has}
use Rattle.report_rules.specs.problem_rules.Problem.{Problem}
use Rattle.report_rules.specs.problem_rules.Validity.{IsValid}
use Rattle.report_rules.specs.pns_rules.Shape.{shape_of}
use Rattle.report_rules.specs.pns_rules.Structure.{IsStructure}
use Rattle.report_rules.specs.flow_rules.Net.{net_of}
use Rattle.report_rules.specs.flow_rules.Flows.{IsFlows, cost}
use Rattle.report_rules.specs.flow_rules.Steps.{AreInRange}
use Rattle.report_rules.specs.flow_rules.CostSteps.{cost_steps}
use Rattle.report_rules.specs.tree_rules.Claim.{Network, size_in, IsFeasible}
use Rattle.report_rules.specs.declared.spot.Spot.{Spot}
use Rattle.report_rules.specs.declared.side.Side.{Side}
use Rattle.report_rules.specs.Spot.{KnowsSpot, value_at, valued, IsAllowedValue, value_on}
use Rattle.report_rules.specs.Range.{cost_at, repriced, IsBestAt}
use Rattle.report_rules.specs.Rise.{least_rise}

abbrev pub ValuedIsValid : Type 0
ValuedIsValid = (p : Problem) → IsValid p → (spot : Spot) → KnowsSpot p spot → (v : ℤ)
    → IsAllowedValue spot v → IsValid (valued p spot v)

-- the present value is an allowed one
abbrev pub PresentIsAllowed : Type 0
PresentIsAllowed = (p : Problem) → IsValid p → (spot : Spot) → KnowsSpot p spot
    → IsAllowedValue spot (value_at p spot)

-- and leaves the problem as it is
abbrev pub ValuedIsSame : Type 0
ValuedIsSame = (p : Problem) (spot : Spot) → valued p spot (value_at p spot) ≡ p

-- no value changes the P-graph
abbrev pub ShapeStays : Type 0
ShapeStays = (p : Problem) (spot : Spot) → KnowsSpot p spot → (v : ℤ)
    → shape_of (valued p spot v) ≡ shape_of p

-- a network is feasible with each value, at what its flows cost there
abbrev pub FeasibleStays : Type 0
FeasibleStays =
    (p : Problem) (spot : Spot) → KnowsSpot p spot → (w : Network) → IsFeasible p w → (v : ℤ)
    → AreInRange (cost_steps (net_of (valued p spot v)) (has w.units) (size_in w) w.d)
    → IsFeasible (valued p spot v) (repriced p spot w v)

-- a number is a straight line in the value
pub record IsLine (f : ℤ → ℤ) : Type 0 where
  pub start : ℤ
  pub slope : ℤ
  pub is_line : (v : ℤ) → f v ≡ start +ℤ slope *ℤ v

abbrev pub CostIsALine : Type 0
CostIsALine =
    (p : Problem) (spot : Spot) → KnowsSpot p spot → (s : ℕ → Bool) (z : ℕ → ℤ) (d : ℤ)
    → IsLine (λ v. cost (net_of (valued p spot v)) s z d)

-- so a network that is optimal at two values is so at each value between them
abbrev pub BestBetween : Type 0
BestBetween =
    (p : Problem) (spot : Spot) → KnowsSpot p spot → (w : Network) (x y v : ℤ) → IsBestAt p spot w x
    → IsBestAt p spot w y
    → x ≤ℤ v → v ≤ℤ y → IsBestAt p spot w v

-- one step farther away, the flows of no structure cost less than the least rise more
abbrev pub RisesEnough : Type 0
RisesEnough =
    (p : Problem) → IsValid p → (spot : Spot) → KnowsSpot p spot
    → (s : ℕ → Bool) → IsStructure (shape_of p) s → (z : ℕ → ℤ) (d : ℤ) → IsFlows (net_of p) s z d
    → (side : Side) (v : ℤ)
    → (cost (net_of (valued p spot v)) s z d +ℤ least_rise p spot side *ℤ d)
    ≤ℤ cost (net_of (valued p spot (value_on side v 1))) s z d

-- so a network that is optimal now, and costs exactly the least rise more one step away, is optimal
-- on this side however far away
abbrev pub BestAway : Type 0
BestAway =
    (p : Problem) → IsValid p → (spot : Spot) → KnowsSpot p spot → (w : Network) → IsFeasible p w
    → IsBestAt p spot w (value_at p spot) → (side : Side)
    → cost_at p spot w (value_on side (value_at p spot) 1) ≡ w.cost +ℤ least_rise p spot side *ℤ w.d
    → (away : ℕ) → IsBestAt p spot w (value_on side (value_at p spot) away)
