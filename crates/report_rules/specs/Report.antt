-- The report of the network of a claim: a head, three tables and a foot, separated by empty lines.
-- Numbers have six digits if they have more; the whole part is never shortened. Headings show the
-- units of measure that the text of the plant names.
use Rattle.std.specs.Prelude.{ℕ, ◌*◌, ◌&&◌, Bool, false, not, List, [], ◌∷◌, ◌++◌, map, flat_map}
use Rattle.std.specs.Prelude.{length, ℤ, pos, neg_ℤ, ◌*ℤ◌, cond, unsigned_abs, int_lt, codes}
use Rattle.std.specs.Prelude.{decimal, if◌then◌else◌}
use Rattle.std.specs.Ordering.{int_eq}
use Rattle.rank_rules.specs.number_sets.Sets.{has, listed}
use Rattle.rank_rules.specs.problem_rules.Problem.{Problem, unit_at, material_at, is_raw_material}
use Rattle.rank_rules.specs.text_rules.Canonical.{kind_word}
use Rattle.rank_rules.specs.flow_rules.Net.{net_of, materials_of, million}
use Rattle.rank_rules.specs.flow_rules.Flows.{balance}
use Rattle.rank_rules.specs.tree_rules.Claim.{Network, size_in}
use Rattle.report_rules.specs.Decimal.{six_digits}
use Rattle.report_rules.specs.declared.column.Sort.{Sort}
use Rattle.report_rules.specs.declared.column.Sort.TheVariants.{Words, Numbers, Sums}
use Rattle.report_rules.specs.Aligned.{table_lines}
use Rattle.report_rules.specs.Number.{Number, number_text, share_text}
use Rattle.report_rules.specs.declared.amount.UnitAmount.TheVariants.{Fixed, Proportional}
use Rattle.report_rules.specs.declared.amount.UnitAmount.TheVariants.{Investment, Total, Once, Made}
use Rattle.report_rules.specs.declared.amount.UnitAmount.TheVariants.{Used}
use Rattle.report_rules.specs.declared.cost_part.CostPart.TheVariants.{All, Costs, Incomes}
use Rattle.report_rules.specs.Amounts.{size, share, amount, unit_sum, net, price, cost, cost_sum}
use Rattle.report_rules.specs.Marginal.{Marginals, are_known, marginal, unit_marginal}
use Rattle.report_rules.specs.Measures.{Measures, with_measure, price_measure, time_words}

-- ---- head

-- words and then a count
abbrev pub counted : List ℕ → ℕ → List ℕ
counted words n = words ++ decimal n

abbrev pub network_line : Problem → Network → List ℕ
network_line p w =
    counted (codes "Claimed network: ") (length w.units) ++ (counted (codes " of ") (length p.units)
    ++ (counted (codes " units, ") (length (materials_of (net_of p) (has w.units)))
    ++ (counted (codes " of ") (length p.materials)
    ++ counted (codes " materials, payout period ") (unsigned_abs p.payout))))

abbrev pub time_line : Measures → List ℕ
time_line ms =
    codes "Money is for " ++ (time_words ms.time ++ codes ": costs are above 0, incomes below.")

abbrev pub head_lines : Measures → Problem → Network → List (List ℕ)
head_lines ms p w =
    codes "Rounded to 6 digits where needed; exact numbers: pns json" ∷ network_line p w
    ∷ time_line ms ∷ [] ∷ []

-- ---- cells

unfoldable pub number_cell : Number → List ℕ
number_cell n = number_text n

-- there is none if the multipliers overflow
unfoldable pub marginal_cell : Marginals → Number → List ℕ
marginal_cell m n = if are_known m then number_cell n else 45 ∷ []

-- 10^9 in millionths: a bound that means that there is no bound
abbrev pub no_bound : ℤ
no_bound = pos 1000000000000000

-- the share of the upper bound, if that is above 0 and means a bound
abbrev pub share_cell : Problem → Network → ℕ → List ℕ
share_cell p w i =
    if int_lt (pos 0) (unit_at p i).upper && not (int_eq (unit_at p i).upper no_bound)
    then share_text (share p w i) else 45 ∷ []

-- At which of its bounds a number over d is: both are equal, or it is at the upper one, or at a
-- lower one that is not 0; else whether it is idle.
unfoldable pub idle_words : Bool → List ℕ
idle_words idle = if idle then codes "idle" else codes "-"

unfoldable pub least_words : Bool → ℤ → ℤ → ℤ → List ℕ
least_words idle lower z d =
    if int_eq lower (pos 0) then idle_words idle else if int_eq z (lower *ℤ d) then codes "min"
    else idle_words idle

unfoldable pub most_words : Bool → ℤ → ℤ → ℤ → ℤ → List ℕ
most_words idle lower upper z d =
    if int_eq z (upper *ℤ d) then codes "max" else least_words idle lower z d

unfoldable pub limit_words : Bool → ℤ → ℤ → ℤ → ℤ → List ℕ
limit_words idle lower upper z d =
    if int_eq lower upper then codes "fixed" else most_words idle lower upper z d

-- the words, unless the number is as large as a bound that means no bound
unfoldable pub unbounded_or : ℤ → ℤ → ℤ → List ℕ → List ℕ
unbounded_or none z d words = if int_eq z (none *ℤ d) then codes "UNBOUNDED?" else words

-- of a unit the size counts, of a raw material what is bought, and of another material what is left
-- over
abbrev pub unit_limit : Problem → Network → ℕ → List ℕ
unit_limit p w i =
    unbounded_or no_bound (size_in w i) w.d
    (limit_words (int_eq (size_in w i) (pos 0)) (unit_at p i).lower (unit_at p i).upper
    (size_in w i) w.d)

abbrev pub bought_or_left : Bool → ℤ → ℤ
bought_or_left raw z = if raw then neg_ℤ z else z

abbrev pub turned_flow : Problem → Network → ℕ → ℤ
turned_flow p w j =
    bought_or_left (is_raw_material (material_at p j).kind)
    (balance (net_of p) (has w.units) (size_in w) j)

abbrev pub material_limit : Problem → Network → ℕ → List ℕ
material_limit p w j =
    unbounded_or (million *ℤ no_bound) (turned_flow p w j) w.d
    (limit_words false (million *ℤ (material_at p j).lower) (million *ℤ (material_at p j).upper)
    (turned_flow p w j) w.d)

-- the lines of a table and an empty one
unfoldable pub table_and_gap : List Sort → List (List ℕ) → List (List (List ℕ)) → List (List ℕ)
table_and_gap sorts heading rows = table_lines sorts heading rows ++ [] ∷ []

-- ---- units

abbrev pub unit_heading : Measures → List (List ℕ)
unit_heading ms = codes "unit" ∷ codes "size" ∷ codes "share %" ∷ codes "limit"
    ∷ with_measure ms.money (codes "fixed") ∷ with_measure ms.money (codes "proportional")
    ∷ with_measure ms.money (codes "investment") ∷ with_measure ms.money (codes "total")
    ∷ with_measure ms.money (codes "marginal") ∷ []

abbrev pub unit_sorts : List Sort
unit_sorts =
    Words ∷ Numbers ∷ Numbers ∷ Words ∷ Numbers ∷ Numbers ∷ Numbers ∷ Numbers ∷ Numbers ∷ []

abbrev pub unit_row : Problem → Network → Marginals → ℕ → List (List ℕ)
unit_row p w m i =
    (unit_at p i).name ∷ number_cell (size w i) ∷ share_cell p w i ∷ unit_limit p w i
    ∷ number_cell (amount Fixed p w i)
    ∷ number_cell (amount Proportional p w i) ∷ number_cell (amount Investment p w i)
    ∷ number_cell (amount Total p w i) ∷ marginal_cell m (unit_marginal p m i) ∷ []

abbrev pub all_units_row : Problem → Network → List (List ℕ)
all_units_row p w =
    codes "all units" ∷ [] ∷ [] ∷ [] ∷ number_cell (unit_sum Fixed p w)
    ∷ number_cell (unit_sum Proportional p w) ∷ number_cell (unit_sum Investment p w)
    ∷ number_cell (unit_sum Total p w) ∷ [] ∷ []

abbrev pub unit_rows : Problem → Network → Marginals → List (List (List ℕ))
unit_rows p w m = map (unit_row p w m) w.units ++ all_units_row p w ∷ []

abbrev pub unit_lines : Measures → Problem → Network → Marginals → List (List ℕ)
unit_lines ms p w m = table_and_gap unit_sorts (unit_heading ms) (unit_rows p w m)

-- ---- materials

-- a price and a marginal are money for one of the material
abbrev pub material_heading : Measures → List (List ℕ)
material_heading ms = codes "material" ∷ codes "kind" ∷ with_measure ms.mass (codes "made")
    ∷ with_measure ms.mass (codes "used") ∷ with_measure ms.mass (codes "net") ∷ codes "limit"
    ∷ with_measure (price_measure ms.money ms.mass) (codes "price")
    ∷ with_measure ms.money (codes "cost")
    ∷ with_measure (price_measure ms.money ms.mass) (codes "marginal") ∷ []

abbrev pub material_sorts : List Sort
material_sorts =
    Words ∷ Words ∷ Numbers ∷ Numbers ∷ Numbers ∷ Words ∷ Numbers ∷ Numbers ∷ Numbers ∷ []

abbrev pub material_row : Problem → Network → Marginals → ℕ → List (List ℕ)
material_row p w m j =
    (material_at p j).name ∷ kind_word (material_at p j).kind ∷ number_cell (unit_sum (Made j) p w)
    ∷ number_cell (unit_sum (Used j) p w)
    ∷ number_cell (net p w j) ∷ material_limit p w j ∷ number_cell (price p j)
    ∷ number_cell (cost p w j) ∷ marginal_cell m (marginal p m j) ∷ []

abbrev pub all_materials_row : Problem → Network → List (List ℕ)
all_materials_row p w =
    codes "all materials" ∷ [] ∷ [] ∷ [] ∷ [] ∷ [] ∷ [] ∷ number_cell (cost_sum All p w) ∷ []
    ∷ []

abbrev pub material_rows : Problem → Network → Marginals → List (List (List ℕ))
material_rows p w m = map (material_row p w m) (materials_of (net_of p) (has w.units))
    ++ all_materials_row p w ∷ []

abbrev pub material_lines : Measures → Problem → Network → Marginals → List (List ℕ)
material_lines ms p w m = table_and_gap material_sorts (material_heading ms) (material_rows p w m)

-- ---- money

abbrev pub money_heading : Measures → List (List ℕ)
money_heading ms =
    (codes "in " ++ time_words ms.time) ∷ with_measure ms.money (codes "money") ∷ []

abbrev pub money_sorts : List Sort
money_sorts = Words ∷ Sums ∷ []

abbrev pub money_row : List ℕ → Number → List (List ℕ)
money_row words n = words ∷ number_cell n ∷ []

-- the cost of the claim over d and the payout period is in 10^-18
unfoldable pub total_cell : Problem → Network → List ℕ
total_cell p w = six_digits w.cost (1000000000000000000 * unsigned_abs p.payout * unsigned_abs w.d)

abbrev pub total_words : ℤ → List ℕ
total_words cost = if int_lt cost (pos 0) then codes "total (an income)" else codes "total (a cost)"

abbrev pub total_row : Problem → Network → List (List ℕ)
total_row p w = total_words w.cost ∷ total_cell p w ∷ []

abbrev pub money_rows : Problem → Network → List (List (List ℕ))
money_rows p w =
    money_row (codes "fixed costs") (unit_sum Fixed p w)
    ∷ money_row (codes "proportional costs") (unit_sum Proportional p w)
    ∷ money_row (codes "investment costs") (unit_sum Investment p w)
    ∷ money_row (codes "material costs") (cost_sum Costs p w)
    ∷ money_row (codes "material incomes") (cost_sum Incomes p w) ∷ total_row p w ∷ []

abbrev pub money_lines : Measures → Problem → Network → List (List ℕ)
money_lines ms p w = table_and_gap money_sorts (money_heading ms) (money_rows p w)

-- ---- foot

abbrev pub once_line : Problem → Network → List ℕ
once_line p w = codes "Investment, paid once: " ++ number_cell (unit_sum Once p w)

-- the units of the problem that are not in the network
abbrev pub left_out : Problem → Network → List ℕ
left_out p w = listed (length p.units) (λ i. not (has w.units i))

abbrev pub name_behind : Problem → ℕ → List ℕ
name_behind p i = 32 ∷ (unit_at p i).name

abbrev pub names_or_none : Problem → List ℕ → List ℕ
names_or_none p [] = codes " none"
names_or_none p (i ∷ is) = flat_map (name_behind p) (i ∷ is)

abbrev pub left_out_line : Problem → Network → List ℕ
left_out_line p w = codes "Units left out:" ++ names_or_none p (left_out p w)

abbrev pub foot_lines : Problem → Network → List (List ℕ)
foot_lines p w = once_line p w ∷ left_out_line p w ∷ []

-- ---- all

abbrev pub report_lines : Measures → Problem → Network → Marginals → List (List ℕ)
report_lines ms p w m =
    head_lines ms p w
    ++ (unit_lines ms p w m
    ++ (material_lines ms p w m ++ (money_lines ms p w ++ foot_lines p w)))
