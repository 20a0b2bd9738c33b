-- What each refusal of a range means.
use Rattle.std.specs.Prelude.{◌≡◌, ℕ, ℤ, Option, Some, None}
use Rattle.stability_laws.specs.problem_rules.Problem.{Problem}
use Rattle.stability_laws.specs.tree_rules.Claim.{Network}
use Rattle.stability_laws.specs.tree_rules.Accepted.{first_node}
use Rattle.solver.specs.abb_search.Found.{IsFound}
use Rattle.solver.specs.abb_search.declared.outcome.Found.TheVariants as founds
use Rattle.stability_laws.specs.report_rules.declared.spot.Spot.{Spot}
use Rattle.stability_laws.specs.report_rules.Spot.{valued, IsAllowedValue}
use Rattle.stability_laws.specs.report_rules.Range.{IsBestAt, IsCheaper, IsCheaperAt, IsHalfProved}
use Rattle.stability_laws.specs.report_rules.Range.{MayWant}
use Rattle.stability_laws.specs.report_rules.Range.{IsPastCost}
use Rattle.stability.specs.declared.outcome.RangeFault.{RangeFault}
use Rattle.stability.specs.declared.outcome.RangeFault.TheVariants.{NotBest, Spent, Past, PastCost}
use Rattle.stability.specs.declared.outcome.RangeFault.TheVariants.{Memory}

-- ---- at one value

-- with this value in the spot the network is optimal, or that one is cheaper
abbrev pub IsProbed : Problem → Spot → Network → ℤ → Option Network → Type 0
IsProbed p spot w v None = IsBestAt p spot w v
IsProbed p spot w v (Some n) = IsCheaperAt p spot w v n

-- the search against the network found no answer there
abbrev pub IsSearchStop : Problem → Spot → ℕ → ℤ → RangeFault → Type 0
IsSearchStop p spot budget v (NotBest n) = ⊥
IsSearchStop p spot budget v (Spent value best tree next options) =
    (value ≡ v) × IsFound (valued p spot v) first_node budget (founds.Spent best tree next options)
IsSearchStop p spot budget v (Past value best tree node nonbasic place) =
    (value ≡ v)
    × IsFound (valued p spot v) first_node budget (founds.Past best tree node nonbasic place)
IsSearchStop p spot budget v (PastCost value at) = ⊥
IsSearchStop p spot budget v Memory = Unit {0}

-- no answer was found there
abbrev pub IsStopAt : Problem → Spot → Network → ℕ → ℤ → RangeFault → Type 0
IsStopAt p spot w budget v (PastCost value at) = (value ≡ v) × IsPastCost p spot w v at
IsStopAt p spot w budget v fault = IsSearchStop p spot budget v fault

-- ---- of the range

-- A network of least cost is cheaper now; or the search against the network stops at a value, as it
-- says, which is the present one or half proved; or the network's cost overflows at one that is
-- half proved.
abbrev pub IsRefusal : Problem → Spot → Network → ℕ → RangeFault → Type 0
IsRefusal p spot w budget (NotBest n) = IsCheaper p (record { cost = w.cost; d = w.d }) n
IsRefusal p spot w budget (Spent value best tree next options) =
    IsAllowedValue spot value × MayWant p spot w value
    × IsFound (valued p spot value) first_node budget (founds.Spent best tree next options)
IsRefusal p spot w budget (Past value best tree node nonbasic place) =
    IsAllowedValue spot value × MayWant p spot w value
    × IsFound (valued p spot value) first_node budget
    (founds.Past best tree node nonbasic place)
IsRefusal p spot w budget (PastCost value at) =
    IsAllowedValue spot value × IsHalfProved p spot w value × IsPastCost p spot w value at
IsRefusal p spot w budget Memory = Unit {0}
