-- The table of a ranking, a row for each network, best first: its place, its cost, what it costs
-- more than the first, the units that it takes in and leaves out against the first, and its idle
-- units. Numbers are those of one year. After the table comes the report of the first network.
use Rattle.std.specs.Prelude.{ℕ, ◌+◌, ◌==◌, List, [], ◌∷◌, ◌++◌, length, ℤ, pos, neg_ℤ, ◌*ℤ◌}
use Rattle.std.specs.Prelude.{unsigned_abs, codes, decimal, if◌then◌else◌}
use Rattle.std.specs.Ordering.{int_eq}
use Rattle.rank_rules.specs.number_sets.Sets.{minus}
use Rattle.rank_rules.specs.problem_rules.Problem.{Problem, unit_at}
use Rattle.rank_rules.specs.tree_rules.Claim.{Network, size_in}
use Rattle.report_rules.specs.declared.column.Sort.{Sort}
use Rattle.report_rules.specs.declared.column.Sort.TheVariants.{Words, Numbers, Sums}
use Rattle.report_rules.specs.Number.{Number, times, plus, share_text}
use Rattle.report_rules.specs.Amounts.{quotient}
use Rattle.report_rules.specs.Marginal.{Marginals}
use Rattle.report_rules.specs.Measures.{Measures, with_measure}
use Rattle.report_rules.specs.Report.{number_cell, total_cell, table_and_gap, report_lines}

-- ---- what a network costs more than the first

-- in 10^-18, and not yet divided by the payout period
abbrev pub more_than : Network → Network → Number
more_than first w = plus (quotient w.cost w.d) (quotient (neg_ℤ first.cost) first.d)

abbrev pub above_first : Problem → Network → Network → Number
above_first p first w =
    times (more_than first w) (quotient (pos 1) (pos 1000000000000000000 *ℤ p.payout))

-- as a share of what the first costs, without its sign
abbrev pub share_above : Network → Network → Number
share_above first w =
    times (more_than first w) (quotient first.d (pos (unsigned_abs first.cost)))

-- ---- cells

-- there is no share if the first costs nothing
unfoldable pub share_above_cell : Network → Network → List ℕ
share_above_cell first w =
    if int_eq first.cost (pos 0) then 45 ∷ [] else share_text (share_above first w)

-- a text and a word, with a space between them
abbrev pub with_word : List ℕ → List ℕ → List ℕ
with_word text word = if length text == 0 then word else text ++ 32 ∷ word

-- a text and the names of units, each with a sign before it
abbrev pub signed_names : Problem → List ℕ → List ℕ → List ℕ → List ℕ
signed_names p sign text [] = text
signed_names p sign text (u ∷ us) =
    signed_names p sign (with_word text (sign ++ (unit_at p u).name)) us

-- the units that the network has and the first has not, and then those the other way round
abbrev pub change_cell : Problem → Network → Network → List ℕ
change_cell p first w =
    signed_names p (codes "-")
    (signed_names p (codes "+") [] (minus w.units first.units)) (minus first.units w.units)

-- a text and the names of the units of size 0
unfoldable pub with_idle : Problem → Network → List ℕ → ℕ → List ℕ
with_idle p w text u =
    if int_eq (size_in w u) (pos 0) then with_word text (unit_at p u).name else text

abbrev pub idle_names : Problem → Network → List ℕ → List ℕ → List ℕ
idle_names p w text [] = text
idle_names p w text (u ∷ us) = idle_names p w (with_idle p w text u) us

abbrev pub idle_cell : Problem → Network → List ℕ
idle_cell p w = idle_names p w [] w.units

-- ---- the table

abbrev pub ranking_heading : Measures → List (List ℕ)
ranking_heading ms = codes "place" ∷ with_measure ms.money (codes "cost")
    ∷ with_measure ms.money (codes "above") ∷ codes "above %" ∷ codes "change" ∷ codes "idle" ∷ []

abbrev pub ranking_sorts : List Sort
ranking_sorts = Numbers ∷ Sums ∷ Numbers ∷ Numbers ∷ Words ∷ Words ∷ []

abbrev pub ranking_row : Problem → Network → ℕ → Network → List (List ℕ)
ranking_row p first place w =
    decimal place ∷ total_cell p w ∷ number_cell (above_first p first w)
    ∷ share_above_cell first w ∷ change_cell p first w ∷ idle_cell p w ∷ []

-- a row for each network, from a place on
abbrev pub ranking_rows : Problem → Network → ℕ → List Network → List (List (List ℕ))
ranking_rows p first place [] = []
ranking_rows p first place (w ∷ ws) =
    ranking_row p first place w ∷ ranking_rows p first (place + 1) ws

abbrev pub ranking_table : Measures → Problem → Network → List Network → List (List ℕ)
ranking_table ms p first ws =
    table_and_gap ranking_sorts (ranking_heading ms) (ranking_rows p first 1 ws)

-- nothing if there is no network; the marginals are those of the first
abbrev pub ranking_lines : Measures → Problem → Marginals → List Network → List (List ℕ)
ranking_lines ms p m [] = []
ranking_lines ms p m (w ∷ ws) = ranking_table ms p w (w ∷ ws) ++ report_lines ms p w m
