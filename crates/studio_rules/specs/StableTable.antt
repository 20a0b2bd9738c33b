-- `stable FILE TREE BUDGET`: how far each price and each cost of the network of the claim may move
-- while the network stays optimal, in one table with aligned columns.
use Rattle.std.specs.Prelude.{◌≡◌, ◌⊎◌, ◌++◌, ◌||◌, ℕ, ℤ, Bool, false, List, [], ◌∷◌, Option, Some}
use Rattle.std.specs.Prelude.{None, codes, map, flat_map, if◌then◌else◌}
use Rattle.std.specs.Str.{bytes_eq}
use Rattle.report_rules.specs.number_sets.Sets.{has}
use Rattle.report_rules.specs.problem_rules.Problem.{Problem, material_at, unit_at}
use Rattle.report_rules.specs.text_rules.Printed.{amount_bytes}
use Rattle.report_rules.specs.flow_rules.Net.{net_of, materials_of}
use Rattle.report_rules.specs.tree_rules.Claim.{Network}
use Rattle.report_rules.specs.tree_text_rules.Read.{Certificate}
use Rattle.report_rules.specs.declared.column.Sort.{Sort}
use Rattle.report_rules.specs.declared.column.Sort.TheVariants.{Words, Sums}
use Rattle.report_rules.specs.Aligned.{table_lines, cell_at}
use Rattle.report_rules.specs.declared.spot.Spot.{Spot}
use Rattle.report_rules.specs.declared.spot.Spot.TheVariants.{Price, Fix, Proportional}
use Rattle.report_rules.specs.Spot.{value_at, valued, IsAllowedValue}
use Rattle.report_rules.specs.Range.{IsRange, IsHalfProved, MayWant, IsPastCost}
use Rattle.studio_rules.specs.Solve.{Holds, status_of}
use Rattle.studio_rules.specs.Stable.{NotBestLines}
use Rattle.studio_rules.specs.declared.status.Status.{Status}
use Rattle.studio_rules.specs.declared.status.Status.TheVariants.{Done, NotBest}

-- ---- what is varied

-- the price of each material of the network, and then the two costs of each of its units, in file
-- order
abbrev pub cost_spots : ℕ → List Spot
cost_spots u = Fix u ∷ Proportional u ∷ []

abbrev pub spots_of : Problem → Network → List Spot
spots_of p w = map Price (materials_of (net_of p) (has w.units)) ++ flat_map cost_spots w.units

-- ---- a row

abbrev pub kind_cell : Spot → List ℕ
kind_cell (Price x) = codes "price"
kind_cell (Fix u) = codes "fix"
kind_cell (Proportional u) = codes "proportional"

abbrev pub name_cell : Problem → Spot → List ℕ
name_cell p (Price x) = (material_at p x).name
name_cell p (Fix u) = (unit_at p u).name
name_cell p (Proportional u) = (unit_at p u).name

-- an end of a range, which is a value or the limit of the values
abbrev pub end_cell : ℤ → Option Network → List ℕ
end_cell value (Some w) = amount_bytes value
end_cell value None = codes "limit"

-- the largest interval of values at which the network is optimal
abbrev pub HasRange : Problem → Spot → Network → List ℕ → List ℕ → Type 0
HasRange p spot w from to =
    (low : ℤ) × (high : ℤ) × (below : Option Network) × (above : Option Network)
    × IsRange p spot w low high below above
    × (from ≡ end_cell low below)
    × (to ≡ end_cell high above)

-- A search for the range stops before its end at a value, which is the present one or half proved:
-- the budget is spent, or a number overflows. Or the network's cost overflows at a value that is
-- half proved. So `stable` of this price or cost alone may stop too.
abbrev pub SearchStops : ℕ → Problem → Spot → Network → Type 0
SearchStops budget p spot w =
    (value : ℤ) × (c : Certificate) × IsAllowedValue spot value × MayWant p spot w value
    × (status_of c.tail ≡ Done → ⊥)
    × Holds budget (valued p spot value) c.claim c.tree c.tail

abbrev pub CostStops : Problem → Spot → Network → Type 0
CostStops p spot w = (value : ℤ) × (at : ℕ) × IsAllowedValue spot value
    × IsHalfProved p spot w value × IsPastCost p spot w value at

abbrev pub HasNoRange : ℕ → Problem → Spot → Network → List ℕ → List ℕ → Type 0
HasNoRange budget p spot w from to =
    (SearchStops budget p spot w ⊎ CostStops p spot w) × (from ≡ codes "?") × (to ≡ codes "?")

abbrev pub HasEnds : ℕ → Problem → Network → Spot → List ℕ → List ℕ → Type 0
HasEnds budget p w spot from to =
    HasRange p spot w from to ⊎ HasNoRange budget p spot w from to

-- the present value is between the two ends
abbrev pub range_row : Problem → Spot → List ℕ → List ℕ → List (List ℕ)
range_row p spot from to =
    kind_cell spot ∷ name_cell p spot ∷ from ∷ amount_bytes (value_at p spot) ∷ to ∷ []

abbrev pub IsRangeRow : ℕ → Problem → Network → Spot → List (List ℕ) → Type 0
IsRangeRow budget p w spot row =
    (from : List ℕ) × (to : List ℕ) × HasEnds budget p w spot from to
    × (row ≡ range_row p spot from to)

-- one row for each, in order
abbrev pub AreRangeRows : ℕ → Problem → Network → List Spot → List (List (List ℕ)) → Type 0
AreRangeRows budget p w [] [] = Unit {0}
AreRangeRows budget p w [] (row ∷ rows) = ⊥
AreRangeRows budget p w (spot ∷ spots) [] = ⊥
AreRangeRows budget p w (spot ∷ spots) (row ∷ rows) =
    IsRangeRow budget p w spot row × AreRangeRows budget p w spots rows

-- ---- the table

-- no column of numbers is left out
abbrev pub range_sorts : List Sort
range_sorts = Words ∷ Words ∷ Sums ∷ Sums ∷ Sums ∷ []

abbrev pub range_heading : List (List ℕ)
range_heading =
    codes "kind" ∷ codes "name" ∷ codes "from" ∷ codes "now" ∷ codes "to" ∷ []

-- whether some row has no range; if so, what to do follows after an empty line
abbrev pub has_open : List (List (List ℕ)) → Bool
has_open [] = false
has_open (row ∷ rows) = bytes_eq (cell_at 2 row) (codes "?") || has_open rows

abbrev pub open_lines : List (List (List ℕ)) → List (List ℕ)
open_lines rows =
    if has_open rows then
    [] ∷ codes "?: a search stopped; call again with a greater BUDGET, up to 1M" ∷ []
    else []

unfoldable pub range_table : List (List (List ℕ)) → List (List ℕ)
range_table rows = table_lines range_sorts range_heading rows ++ open_lines rows

abbrev pub RangesLines : ℕ → Problem → Network → List (List ℕ) → Type 0
RangesLines budget p w lines =
    (rows : List (List (List ℕ))) × AreRangeRows budget p w (spots_of p w) rows
    × (lines ≡ range_table rows)

-- ---- the work

-- if a network is cheaper now, it is printed in place of the table
abbrev pub RangesWork : ℕ → Problem → Network → Status → List (List ℕ) → Type 0
RangesWork budget p w Done lines = RangesLines budget p w lines
RangesWork budget p w NotBest lines = NotBestLines p w lines
RangesWork budget p w status lines = ⊥
