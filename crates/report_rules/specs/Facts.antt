-- The facts of the network of a claim for one year, as the lines of one JSON object: those of its
-- report, in the same order. Each unit and each material has a line.
use Rattle.std.specs.Prelude.{◌*ℤ◌, ◌&&◌, not, ℕ, List, [], ◌∷◌, ◌++◌, map, length, ℤ, pos}
use Rattle.std.specs.Prelude.{unsigned_abs, int_lt, codes, decimal, if◌then◌else◌}
use Rattle.std.specs.Str.{bytes_eq}
use Rattle.std.specs.Ordering.{int_eq}
use Rattle.rank_rules.specs.number_sets.Sets.{has}
use Rattle.rank_rules.specs.problem_rules.Problem.{Problem, unit_at, material_at}
use Rattle.rank_rules.specs.text_rules.Canonical.{kind_word}
use Rattle.rank_rules.specs.flow_rules.Net.{net_of, materials_of}
use Rattle.rank_rules.specs.tree_rules.Claim.{Network}
use Rattle.report_rules.specs.Number.{Number, times}
use Rattle.report_rules.specs.declared.amount.UnitAmount.TheVariants.{Fixed, Proportional}
use Rattle.report_rules.specs.declared.amount.UnitAmount.TheVariants.{Investment, Total, Once, Made}
use Rattle.report_rules.specs.declared.amount.UnitAmount.TheVariants.{Used}
use Rattle.report_rules.specs.declared.cost_part.CostPart.TheVariants.{Costs, Incomes}
use Rattle.report_rules.specs.Amounts.{quotient, size, share, amount, unit_sum, net, price, cost}
use Rattle.report_rules.specs.Amounts.{cost_sum}
use Rattle.report_rules.specs.Marginal.{Marginals, marginal, unit_marginal}
use Rattle.report_rules.specs.Report.{no_bound, unit_limit, material_limit, left_out}
use Rattle.report_rules.specs.Json.{null, quoted, member, object, array, with_comma, comma_lines}
use Rattle.report_rules.specs.Json.{array_lines}
use Rattle.report_rules.specs.Value.{number_json}

-- ---- members

abbrev pub text_member : List ℕ → List ℕ → List ℕ
text_member key words = member key (quoted words)

abbrev pub count_member : List ℕ → ℕ → List ℕ
count_member key n = member key (decimal n)

abbrev pub number_member : List ℕ → Number → List ℕ
number_member key n = member key (number_json n)

-- null if a report has `-`
unfoldable pub limit_json : List ℕ → List ℕ
limit_json words = if bytes_eq words (codes "-") then null else quoted words

abbrev pub limit_member : List ℕ → List ℕ
limit_member words = member (codes "limit") (limit_json words)

-- ---- head

abbrev pub counts_member : Problem → Network → List ℕ
counts_member p w = member (codes "counts") (object (
    count_member (codes "units") (length w.units)
    ∷ count_member (codes "all_units") (length p.units)
    ∷ count_member (codes "materials") (length (materials_of (net_of p) (has w.units)))
    ∷ count_member (codes "all_materials") (length p.materials) ∷ []))

abbrev pub payout_member : Problem → List ℕ
payout_member p = count_member (codes "payout_period") (unsigned_abs p.payout)

-- ---- units

-- the share of the upper bound, if that is above 0 and means a bound
unfoldable pub share_json : Problem → Network → ℕ → List ℕ
share_json p w i =
    if int_lt (pos 0) (unit_at p i).upper && not (int_eq (unit_at p i).upper no_bound)
    then number_json (share p w i) else null

abbrev pub unit_json : Problem → Network → Marginals → ℕ → List ℕ
unit_json p w m i = object (
    text_member (codes "name") (unit_at p i).name ∷ number_member (codes "size") (size w i)
    ∷ member (codes "share") (share_json p w i) ∷ limit_member (unit_limit p w i)
    ∷ number_member (codes "fixed") (amount Fixed p w i)
    ∷ number_member (codes "proportional") (amount Proportional p w i)
    ∷ number_member (codes "investment") (amount Investment p w i)
    ∷ number_member (codes "total") (amount Total p w i)
    ∷ number_member (codes "marginal") (unit_marginal p m i) ∷ [])

-- ---- materials

abbrev pub material_json : Problem → Network → Marginals → ℕ → List ℕ
material_json p w m j = object (
    text_member (codes "name") (material_at p j).name
    ∷ text_member (codes "kind") (kind_word (material_at p j).kind)
    ∷ number_member (codes "made") (unit_sum (Made j) p w)
    ∷ number_member (codes "used") (unit_sum (Used j) p w)
    ∷ number_member (codes "net") (net p w j)
    ∷ limit_member (material_limit p w j) ∷ number_member (codes "price") (price p j)
    ∷ number_member (codes "cost") (cost p w j)
    ∷ number_member (codes "marginal") (marginal p m j) ∷ [])

-- ---- money

-- the cost of the claim over d and the payout period is in 10^-18
abbrev pub total : Problem → Network → Number
total p w = times (quotient w.cost w.d) (quotient (pos 1) (pos 1000000000000000000 *ℤ p.payout))

abbrev pub money_member : Problem → Network → List ℕ
money_member p w = member (codes "money") (object (
    number_member (codes "fixed") (unit_sum Fixed p w)
    ∷ number_member (codes "proportional") (unit_sum Proportional p w)
    ∷ number_member (codes "investment") (unit_sum Investment p w)
    ∷ number_member (codes "material_costs") (cost_sum Costs p w)
    ∷ number_member (codes "material_incomes") (cost_sum Incomes p w)
    ∷ number_member (codes "total") (total p w) ∷ []))

abbrev pub once_member : Problem → Network → List ℕ
once_member p w = number_member (codes "paid_once") (unit_sum Once p w)

-- ---- units left out

abbrev pub unit_name : Problem → ℕ → List ℕ
unit_name p i = quoted (unit_at p i).name

abbrev pub left_out_member : Problem → Network → List ℕ
left_out_member p w = member (codes "left_out") (array (map (unit_name p) (left_out p w)))

-- ---- all

-- after the members of the head, which say the verdict and the claim
abbrev pub head_lines : List (List ℕ) → Problem → Network → List (List ℕ)
head_lines head p w =
    (123 ∷ [])
    ∷ (map with_comma head ++ with_comma (counts_member p w) ∷ with_comma (payout_member p) ∷ [])

abbrev pub unit_lines : Problem → Network → Marginals → List (List ℕ)
unit_lines p w m = array_lines (codes "units") (map (unit_json p w m) w.units)

abbrev pub material_lines : Problem → Network → Marginals → List (List ℕ)
material_lines p w m =
    array_lines (codes "materials")
    (map (material_json p w m) (materials_of (net_of p) (has w.units)))

abbrev pub foot_lines : Problem → Network → List (List ℕ)
foot_lines p w = with_comma (money_member p w) ∷ with_comma (once_member p w) ∷ left_out_member p w
    ∷ (125 ∷ []) ∷ []

abbrev pub fact_lines : List (List ℕ) → Problem → Network → Marginals → List (List ℕ)
fact_lines head p w m =
    head_lines head p w ++ (unit_lines p w m ++ (material_lines p w m ++ foot_lines p w))

-- the lines of a claim without a network
abbrev pub bare_lines : List (List ℕ) → List (List ℕ)
bare_lines head = (123 ∷ []) ∷ (comma_lines head ++ (125 ∷ []) ∷ [])
