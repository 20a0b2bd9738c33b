-- The sensitivity range of a price or a cost: the values at which a network, with its flows
-- unchanged, is optimal among the clash-free networks.
use Rattle.std.specs.Prelude.{◌≡◌, ◌⊎◌, ℕ, ◌/◌, ℤ, pos, ◌+ℤ◌, ◌-ℤ◌, ◌*ℤ◌, ◌≤ℤ◌, ◌<ℤ◌, Bool, Option}
use Rattle.std.specs.Prelude.{Some, None}
use Rattle.rank_rules.specs.number_sets.Sets.{has}
use Rattle.rank_rules.specs.problem_rules.Problem.{Problem}
use Rattle.rank_rules.specs.pns_rules.Shape.{shape_of}
use Rattle.rank_rules.specs.pns_rules.Structure.{IsStructure, IsAllowed}
use Rattle.rank_rules.specs.flow_rules.Net.{net_of}
use Rattle.rank_rules.specs.flow_rules.Flows.{cost}
use Rattle.rank_rules.specs.flow_rules.Steps.{IsFirstPast}
use Rattle.rank_rules.specs.flow_rules.CostSteps.{cost_steps}
use Rattle.rank_rules.specs.tree_rules.Claim.{Network, CostOver, IsSized, size_in, IsFeasible}
use Rattle.rank_rules.specs.tree_rules.Costs.{CostsEnough}
use Rattle.report_rules.specs.declared.spot.Spot.{Spot}
use Rattle.report_rules.specs.declared.side.Side.{Side}
use Rattle.report_rules.specs.declared.side.Side.TheVariants.{Below, Above}
use Rattle.report_rules.specs.Spot.{value_at, valued, least_value, greatest_value}
use Rattle.report_rules.specs.Spot.{IsAllowedValue, value_on, limit_on}

-- no clash-free solution structure costs less, whatever its flows
abbrev pub IsLeast : Problem → CostOver → Type 0
IsLeast p much = (s : ℕ → Bool) → IsStructure (shape_of p) s → IsAllowed (shape_of p) s
    → CostsEnough p (Some much) s

-- what the network's flows cost with this value in the spot
abbrev pub cost_at : Problem → Spot → Network → ℤ → ℤ
cost_at p spot w v = cost (net_of (valued p spot v)) (has w.units) (size_in w) w.d

-- the same flows at that cost
abbrev pub repriced : Problem → Spot → Network → ℤ → Network
repriced p spot w v = record w { cost = cost_at p spot w v }

-- the network is optimal among the clash-free ones with this value in the spot
abbrev pub IsBestAt : Problem → Spot → Network → ℤ → Type 0
IsBestAt p spot w v = IsLeast (valued p spot v) (record { cost = cost_at p spot w v; d = w.d })

-- the network n, with one size for each unit in file order, is one of least cost, and costs less
-- than this much
pub record IsCheaper (p : Problem) (much : CostOver) (n : Network) : Type 0 where
  pub sized : IsSized n
  pub feasible : IsFeasible p n
  pub least : IsLeast p (record { cost = n.cost; d = n.d })
  pub cheaper : (n.cost *ℤ much.d) <ℤ (much.cost *ℤ n.d)

-- with this value in the spot it costs less than w
abbrev pub IsCheaperAt : Problem → Spot → Network → ℤ → Network → Type 0
IsCheaperAt p spot w v n =
    IsCheaper (valued p spot v) (record { cost = cost_at p spot w v; d = w.d }) n

-- ---- the range

-- one step from the end of a range, away from the present value
abbrev pub beyond : Side → ℤ → ℤ
beyond Below v = v -ℤ pos 1
beyond Above v = v +ℤ pos 1

-- a range ends at the limit of the values, or one step before a value at which this network is
-- cheaper
abbrev pub EndsAt : Problem → Spot → Network → Side → ℤ → Option Network → Type 0
EndsAt p spot w side end None = end ≡ limit_on side spot
EndsAt p spot w side end (Some n) = IsAllowedValue spot (beyond side end)
    × IsCheaperAt p spot w (beyond side end) n

-- the largest interval of allowed values around the present one at which the network is optimal
pub record IsRange (p : Problem) (spot : Spot) (w : Network) (from to : ℤ)
    (below above : Option Network) : Type 0 where
  pub starts : (least_value spot ≤ℤ from) × (from ≤ℤ value_at p spot)
  pub stops : (value_at p spot ≤ℤ to) × (to ≤ℤ greatest_value)
  pub best : (v : ℤ) → from ≤ℤ v → v ≤ℤ to → IsBestAt p spot w v
  pub ends_below : EndsAt p spot w Below from below
  pub ends_above : EndsAt p spot w Above to above

-- ---- if no range is reported

-- A value for which there was no answer is not the present one. The network is optimal at the
-- present value, and also half the way to that value.
pub record IsHalfProved (p : Problem) (spot : Spot) (w : Network) (v : ℤ) : Type 0 where
  pub side : Side
  pub away : ℕ
  pub value_is : v ≡ value_on side (value_at p spot) away
  pub far : v ≡ value_at p spot → ⊥
  pub best_now : IsBestAt p spot w (value_at p spot)
  pub best_half : IsBestAt p spot w (value_on side (value_at p spot) (away / 2))

-- there may be no answer for the present value, and for one that is half proved
abbrev pub MayWant : Problem → Spot → Network → ℤ → Type 0
MayWant p spot w v = (v ≡ value_at p spot) ⊎ IsHalfProved p spot w v

-- with this value in the spot, step `at` of the network's cost is the first that is out of range
abbrev pub IsPastCost : Problem → Spot → Network → ℤ → ℕ → Type 0
IsPastCost p spot w v at =
    IsFirstPast (cost_steps (net_of (valued p spot v)) (has w.units) (size_in w) w.d) at
