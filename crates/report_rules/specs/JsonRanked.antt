-- The networks of a ranking as members of one JSON object, best first, with the facts of the table
-- of a report. After them come the facts of the first network.
use Rattle.std.specs.Prelude.{ℕ, ◌+◌, List, [], ◌∷◌, map, flat_map, codes, pos, if◌then◌else◌}
use Rattle.std.specs.Ordering.{int_eq}
use Rattle.rank_rules.specs.number_sets.Sets.{minus}
use Rattle.rank_rules.specs.problem_rules.Problem.{Problem}
use Rattle.rank_rules.specs.tree_rules.Claim.{Network, size_in}
use Rattle.report_rules.specs.Marginal.{Marginals}
use Rattle.report_rules.specs.Ranked.{above_first, share_above}
use Rattle.report_rules.specs.Json.{null, member, object, array}
use Rattle.report_rules.specs.Value.{number_json}
use Rattle.report_rules.specs.Facts.{count_member, number_member, unit_name, total, fact_lines}
use Rattle.report_rules.specs.Facts.{bare_lines}

-- there is no share if the first network costs nothing
unfoldable pub share_above_json : Network → Network → List ℕ
share_above_json first w =
    if int_eq first.cost (pos 0) then null else number_json (share_above first w)

-- an array of the names of units
abbrev pub names_member : List ℕ → Problem → List ℕ → List ℕ
names_member key p us = member key (array (map (unit_name p) us))

-- the names of the units of size 0
unfoldable pub idle_json : Problem → Network → ℕ → List (List ℕ)
idle_json p w u = if int_eq (size_in w u) (pos 0) then unit_name p u ∷ [] else []

abbrev pub idle_values : Problem → Network → List ℕ → List (List ℕ)
idle_values p w us = flat_map (idle_json p w) us

abbrev pub idle_member : Problem → Network → List ℕ
idle_member p w = member (codes "idle") (array (idle_values p w w.units))

abbrev pub network_json : Problem → Network → ℕ → Network → List ℕ
network_json p first place w = object (
    count_member (codes "place") place ∷ number_member (codes "cost") (total p w)
    ∷ number_member (codes "above") (above_first p first w)
    ∷ member (codes "share_above") (share_above_json first w)
    ∷ names_member (codes "taken_in") p (minus w.units first.units)
    ∷ names_member (codes "left_out") p (minus first.units w.units)
    ∷ idle_member p w ∷ [])

-- a value for each network, from a place on
abbrev pub network_values : Problem → Network → ℕ → List Network → List (List ℕ)
network_values p first place [] = []
network_values p first place (w ∷ ws) =
    network_json p first place w ∷ network_values p first (place + 1) ws

abbrev pub values_of : Problem → List Network → List (List ℕ)
values_of p [] = []
values_of p (w ∷ ws) = network_values p w 1 (w ∷ ws)

abbrev pub networks_member : Problem → List Network → List ℕ
networks_member p ws = member (codes "networks") (array (values_of p ws))

-- the members of the head, and the facts of the first network if there is one; the marginals are
-- those of the first
abbrev pub lines_behind : List (List ℕ) → Problem → Marginals → List Network → List (List ℕ)
lines_behind head p m [] = bare_lines head
lines_behind head p m (w ∷ ws) = fact_lines head p w m
