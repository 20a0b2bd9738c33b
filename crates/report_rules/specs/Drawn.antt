-- What is drawn of a plant: some of its units with their materials and, if one is given, a network
-- in it. All numbers are for a year, and have six digits if they have more; the whole part is never
-- shortened.
use Rattle.std.specs.Prelude.{ℕ, ◌*◌, ◌/◌, ◌++◌, ◌&&◌, ◌||◌, not, nat_lt, Bool, true, false, List}
use Rattle.std.specs.Prelude.{[], ◌∷◌, Option, Some, None, ℤ, pos, ◌*ℤ◌, unsigned_abs, int_lt}
use Rattle.std.specs.Prelude.{codes, length, if◌then◌else◌}
use Rattle.std.specs.Ordering.{int_eq}
use Rattle.report_rules.specs.Decimal.{six_digits}
use Rattle.report_rules.specs.Number.{Number, number_text, times}
use Rattle.report_rules.specs.Amounts.{quotient, size, price, unit_total}
use Rattle.report_rules.specs.Aligned.{greater}
use Rattle.report_rules.specs.Report.{turned_flow}
use Rattle.rank_rules.specs.number_sets.Sets.{has, listed}
use Rattle.rank_rules.specs.problem_rules.Problem.{Problem, Term, rate_of, unit_at, material_at}
use Rattle.rank_rules.specs.pns_rules.Shape.{shape_of}
use Rattle.rank_rules.specs.pns_rules.Structure.{mats}
use Rattle.rank_rules.specs.flow_rules.Net.{net_of, million}
use Rattle.rank_rules.specs.flow_rules.Flows.{balance}
use Rattle.rank_rules.specs.tree_rules.Claim.{Network, size_in}
use Rattle.report_rules.specs.declared.role.Role.{Role}
use Rattle.report_rules.specs.declared.role.Role.TheVariants.{Planned, Running, AtLimit, Idle}
use Rattle.report_rules.specs.declared.role.Role.TheVariants.{LeftOut}

pub record Picture : Type 0 where
  pub problem : Problem
  pub network : Option Network
  pub units : ℕ → Bool

-- a number over d is at its upper bound, or at its lower one, which is not 0; and the two bounds
-- differ
abbrev pub is_limited : ℤ → ℤ → ℤ → ℤ → Bool
is_limited lower upper z d =
    not (int_eq lower upper) &&
    (int_eq z (upper *ℤ d) || (not (int_eq lower (pos 0)) && int_eq z (lower *ℤ d)))

-- ---- units

-- the role of a unit of the network, from its size and whether that is at a limit
abbrev pub built_role : ℤ → Bool → Role
built_role size limited = if int_eq size (pos 0) then Idle else if limited then AtLimit else Running

abbrev pub is_unit_limited : Problem → Network → ℕ → Bool
is_unit_limited p w i = is_limited (unit_at p i).lower (unit_at p i).upper (size_in w i) w.d

-- the role of a unit: without a network each may be built; in a network it runs, is idle, or is
-- left out
abbrev pub role_of : Problem → Option Network → ℕ → Role
role_of p None i = Planned
role_of p (Some w) i =
    if has w.units i then built_role (size_in w i) (is_unit_limited p w i) else LeftOut

-- whether the unit is one of the network, if there is one
abbrev pub is_built : Option Network → ℕ → Bool
is_built None i = true
is_built (Some w) i = has w.units i

-- a new line in a label
abbrev pub below : List ℕ
below = 92 ∷ 110 ∷ []

-- the size of a unit of the network, and its costs
abbrev pub size_label : Problem → Network → ℕ → List ℕ
size_label p w i =
    below
    ++ (codes "size "
    ++ (number_text (size w i) ++ (below ++ (codes "cost " ++ number_text (unit_total p w i)))))

abbrev pub unit_size : Problem → Option Network → ℕ → List ℕ
unit_size p None i = []
unit_size p (Some w) i = if has w.units i then size_label p w i else []

-- ---- materials

-- whether the unit is one of a network
abbrev pub is_taken : Option Network → ℕ → Bool
is_taken None i = false
is_taken (Some w) i = has w.units i

-- of a raw material all users that are drawn count, of another material only those in the network
abbrev pub counts : Picture → ℕ → ℕ → Bool
counts d j i = if (shape_of d.problem).raw j then d.units i else is_taken d.network i

abbrev pub users_of : Picture → ℕ → List ℕ
users_of d j = listed (length d.problem.units) (λ i. (shape_of d.problem).uses i j && counts d j i)

-- a material with more than four such users is drawn once for each user
abbrev pub is_spread : Picture → ℕ → Bool
is_spread d j = nat_lt 4 (length (users_of d j))

-- whether what is bought or left over of the material of the network is at a limit
abbrev pub is_material_limited : Problem → Network → ℕ → Bool
is_material_limited p w j =
    is_limited (million *ℤ (material_at p j).lower) (million *ℤ (material_at p j).upper)
    (turned_flow p w j) w.d

-- a flow in 10^-12 over d
abbrev pub flow_text : ℤ → ℕ → List ℕ
flow_text z d = six_digits (pos (unsigned_abs z)) (1000000000000 * d)

abbrev pub way_words : ℤ → List ℕ
way_words z = if int_lt z (pos 0) then codes "in " else codes "out "

-- what is paid in a year for such a flow at the price, in millionths
abbrev pub money : ℤ → ℤ → ℤ → Number
money price z d =
    times (quotient (pos (unsigned_abs z)) d) (quotient price (pos 1000000000000000000))

abbrev pub money_label : ℤ → ℤ → ℤ → List ℕ
money_label price z d =
    if int_eq price (pos 0) then [] else below
    ++ (codes "at "
    ++ (number_text (quotient price million) ++ (codes ": " ++ number_text (money price z d))))

-- what comes in of a material, or goes out of it, with its price and the money for it; there is no
-- label if that is 0
abbrev pub net_label : ℤ → ℤ → ℤ → List ℕ
net_label price z d = if int_eq z (pos 0) then [] else below
    ++ (way_words z ++ (flow_text z (unsigned_abs d) ++ money_label price z d))

abbrev pub material_flow : Problem → Option Network → ℕ → List ℕ
material_flow p None j = []
material_flow p (Some w) j =
    if mats (shape_of p) (has w.units) j
    then net_label (material_at p j).price (balance (net_of p) (has w.units) (size_in w) j) w.d
    else []

-- ---- arcs

-- what unit i makes of material j less what it uses of it; it does only one of the two
abbrev pub moved : Problem → Network → ℕ → ℕ → ℤ
moved p w i j = rate_of p j i *ℤ size_in w i

abbrev pub arc_flow : Problem → Network → ℕ → ℕ → List ℕ
arc_flow p w i j = flow_text (moved p w i j) (unsigned_abs w.d)

-- the greatest flow of an arc of the network, at least n
abbrev pub most_of : Problem → Network → ℕ → ℕ → List Term → ℕ
most_of p w i n [] = n
most_of p w i n (t ∷ ts) = most_of p w i (greater n (unsigned_abs (moved p w i t.material))) ts

abbrev pub most_at : Problem → Network → ℕ → ℕ → ℕ
most_at p w n i = most_of p w i (most_of p w i n (unit_at p i).inputs) (unit_at p i).outputs

abbrev pub most_from : Problem → Network → ℕ → List ℕ → ℕ
most_from p w n [] = n
most_from p w n (i ∷ is) = most_from p w (most_at p w n i) is

abbrev pub greatest_flow : Problem → Option Network → ℕ
greatest_flow p None = 0
greatest_flow p (Some w) = most_from p w 0 w.units

-- how wide the arc of a flow is drawn: it depends on whether the flow is above a half, a quarter or
-- a tenth of the greatest
abbrev pub width_words : ℕ → ℕ → List ℕ
width_words most flow =
    if nat_lt (most / 2) flow then codes "4" else if nat_lt (most / 4) flow then codes "3"
    else if nat_lt (most / 10) flow then codes "2" else codes "1"
