-- `stable FILE TREE KIND NAME BUDGET`: how far one price or cost may move while the network of the
-- claim stays optimal. The lines of a network and of a tree are those of a tree text.
use Rattle.std.specs.Prelude.{◌≡◌, ◌⊎◌, ◌++◌, ℕ, ℤ, List, [], ◌∷◌, Option, Some, None, codes}
use Rattle.std.specs.Prelude.{decimal, option_map}
use Rattle.std.specs.List.{position}
use Rattle.std.specs.Str.{bytes_eq}
use Rattle.std.specs.Fmt.{signed_decimal}
use Rattle.report_rules.specs.problem_rules.Problem.{Problem, material_names, unit_names}
use Rattle.report_rules.specs.tree_rules.Claim.{Network, Claim}
use Rattle.report_rules.specs.tree_rules.Accepted.{Tree}
use Rattle.report_rules.specs.tree_text_rules.Line.{Token}
use Rattle.report_rules.specs.tree_text_rules.Spelling.{network_lines}
use Rattle.report_rules.specs.declared.spot.Spot.{Spot}
use Rattle.report_rules.specs.declared.spot.Spot.TheVariants as spots
use Rattle.report_rules.specs.declared.side.Side.{Side}
use Rattle.report_rules.specs.declared.side.Side.TheVariants.{Below, Above}
use Rattle.report_rules.specs.declared.spot.SpotKind.{SpotKind}
use Rattle.report_rules.specs.declared.spot.SpotKind.TheVariants.{Price, Fix, Proportional}
use Rattle.report_rules.specs.Spot.{valued, IsAllowedValue}
use Rattle.report_rules.specs.Range.{IsCheaper, IsRange, IsHalfProved, MayWant, IsPastCost}
use Rattle.studio_rules.specs.Solve.{PlainWork, CanFinish}
use Rattle.studio_rules.specs.Network.{OnNetwork}
use Rattle.studio_rules.specs.Printed.{spelled}
use Rattle.studio_rules.specs.declared.status.Status.{Status}
use Rattle.studio_rules.specs.declared.status.Status.TheVariants.{Done, Past, Spent, NotBest}
use Rattle.studio_rules.specs.declared.status.Status.TheVariants.{UnknownName}

-- the spot of this kind and name, if the problem has it
abbrev pub spot_named : Problem → SpotKind → List ℕ → Option Spot
spot_named p Price name =
    option_map spots.Price (position (λ word. bytes_eq word name) (material_names p.materials))
spot_named p Fix name =
    option_map spots.Fix (position (λ word. bytes_eq word name) (unit_names p.units))
spot_named p Proportional name =
    option_map spots.Proportional (position (λ word. bytes_eq word name) (unit_names p.units))

-- ---- the lines

-- the word of a side
abbrev pub side_word : Side → List ℕ
side_word Below = codes "below"
side_word Above = codes "above"

-- what is beyond one end of the range: a network, or the limit of the values
abbrev pub beyond_lines : Problem → List ℕ → Option Network → List (List Token)
beyond_lines p side (Some w) = (side ∷ []) ∷ network_lines p w
beyond_lines p side None = (side ∷ codes "limit" ∷ []) ∷ []

abbrev pub end_lines : Problem → List ℕ → ℤ → List ℕ → Option Network → List (List Token)
end_lines p head value side beyond = (head ∷ signed_decimal value ∷ []) ∷ beyond_lines p side beyond

abbrev pub range_lines : Problem → ℤ → ℤ → Option Network → Option Network → List (List Token)
range_lines p from to below above =
    end_lines p (codes "from") from (side_word Below) below
    ++ end_lines p (codes "to") to (side_word Above) above

abbrev pub not_best_lines : Problem → Network → List (List Token)
not_best_lines p w = (codes "not" ∷ codes "best" ∷ []) ∷ network_lines p w

abbrev pub at_line : ℤ → List Token
at_line value = codes "at" ∷ signed_decimal value ∷ []

abbrev pub past_cost_lines : ℤ → ℕ → List (List Token)
past_cost_lines value at = at_line value ∷ (codes "place" ∷ codes "cost" ∷ decimal at ∷ []) ∷ []

-- ---- the work

-- the largest interval of values at which the network is optimal
abbrev pub RangeLines : Problem → Spot → Network → List (List ℕ) → Type 0
RangeLines p spot w lines =
    (from : ℤ) × (to : ℤ) × (below : Option Network) × (above : Option Network)
    × IsRange p spot w from to below above
    × (lines ≡ spelled (range_lines p from to below above))

-- a network of least cost that is cheaper now
abbrev pub NotBestLines : Problem → Network → List (List ℕ) → Type 0
NotBestLines p w lines = (n : Network) × IsCheaper p (record { cost = w.cost; d = w.d }) n
    × (lines ≡ spelled (not_best_lines p n))

-- The search stops at a value, which is the present one or half proved. The lines after it are
-- those of `solve` for the problem with this value in the spot.
abbrev pub StopLines : Problem → Spot → Network → ℕ → Status → List (List ℕ) → Type 0
StopLines p spot w budget status lines =
    (value : ℤ) × (rest : List (List ℕ)) × IsAllowedValue spot value × MayWant p spot w value
    × PlainWork budget (valued p spot value) status rest
    × (lines ≡ spelled (at_line value ∷ []) ++ rest)

-- the network's cost overflows at a value that is half proved
abbrev pub PastCostLines : Problem → Spot → Network → List (List ℕ) → Type 0
PastCostLines p spot w lines =
    (value : ℤ) × (at : ℕ) × IsAllowedValue spot value × IsHalfProved p spot w value
    × IsPastCost p spot w value at
    × (lines ≡ spelled (past_cost_lines value at))

abbrev pub SpotWork : Spot → ℕ → Problem → Network → Status → List (List ℕ) → Type 0
SpotWork spot budget p w Done lines = RangeLines p spot w lines
SpotWork spot budget p w NotBest lines = NotBestLines p w lines
SpotWork spot budget p w Spent lines = StopLines p spot w budget Spent lines
SpotWork spot budget p w Past lines = StopLines p spot w budget Past lines
    ⊎ PastCostLines p spot w lines
SpotWork spot budget p w status lines = ⊥

-- first the name is looked up, and then the claim is judged
abbrev pub NamedWork : Option Spot → ℕ → Problem → Claim → Tree → Status → List (List ℕ) → Type 0
NamedWork None budget p claim tree status lines =
    (status ≡ UnknownName) × (lines ≡ codes "unknown name" ∷ [])
NamedWork (Some spot) budget p claim tree status lines =
    OnNetwork (SpotWork spot budget) p claim tree status lines

abbrev pub StableWork : SpotKind → List ℕ → ℕ → Problem → Claim → Tree → Status → List (List ℕ)
    → Type 0
StableWork kind name budget p = NamedWork (spot_named p kind name) budget p

-- Nothing stops a range before its end: with each allowed value in the spot the search can finish,
-- and the steps of the network's cost are in range.
pub record CanRange (budget : ℕ) (p : Problem) (spot : Spot) (w : Network) : Type 0 where
  pub searches : (value : ℤ) → IsAllowedValue spot value → CanFinish budget (valued p spot value)
  pub costs : (value : ℤ) (at : ℕ) → IsAllowedValue spot value → IsPastCost p spot w value at → ⊥
