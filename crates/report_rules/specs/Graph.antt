-- A plant as text for Graphviz: some of its units, and a network in it, if one is given. Raw
-- materials are houses, products have a double line, units are boxes. What the network leaves out
-- is grey. If the network is the first of a list, a node above all has the list as a table. Names
-- and numbers have no byte that would end a text between quotes.
use Rattle.std.specs.Prelude.{◌==◌, ℕ, ◌+◌, ◌*◌, ◌++◌, Bool, List, [], ◌∷◌, map, flat_map}
use Rattle.std.specs.Prelude.{length, decimal}
use Rattle.std.specs.Prelude.{Option, Some, None, ℤ, pos, unsigned_abs, int_lt, codes}
use Rattle.std.specs.Prelude.{if◌then◌else◌}
use Rattle.report_rules.specs.Decimal.{six_digits, signed_text}
use Rattle.report_rules.specs.Number.{number_text}
use Rattle.report_rules.specs.Ranked.{above_first, change_cell}
use Rattle.rank_rules.specs.number_sets.Sets.{has, listed}
use Rattle.rank_rules.specs.problem_rules.Problem.{Kind, raw_material, intermediate, product}
use Rattle.rank_rules.specs.problem_rules.Problem.{Problem}
use Rattle.rank_rules.specs.problem_rules.Problem.{Term}
use Rattle.rank_rules.specs.problem_rules.Problem.{Material, OperatingUnit, material_at, unit_at}
use Rattle.rank_rules.specs.flow_rules.Net.{net_of, materials_of}
use Rattle.rank_rules.specs.pns_rules.Shape.{shape_of}
use Rattle.rank_rules.specs.pns_rules.Structure.{mats}
use Rattle.rank_rules.specs.tree_rules.Claim.{Network}
use Rattle.report_rules.specs.declared.role.Role.{Role}
use Rattle.report_rules.specs.declared.role.Role.TheVariants.{Planned, Running, AtLimit}
use Rattle.report_rules.specs.declared.role.Role.TheVariants.{Idle}
use Rattle.report_rules.specs.declared.role.Role.TheVariants.{LeftOut}
use Rattle.report_rules.specs.Drawn.{Picture, role_of, is_built, is_spread}
use Rattle.report_rules.specs.Drawn.{is_material_limited}
use Rattle.report_rules.specs.Drawn.{material_flow, unit_size, moved, arc_flow}
use Rattle.report_rules.specs.Drawn.{greatest_flow}
use Rattle.report_rules.specs.Drawn.{width_words}

-- a number of the problem, which is in millionths; nothing is rounded
abbrev pub exact : ℤ → List ℕ
exact z = signed_text 6 (int_lt z (pos 0)) (unsigned_abs z)

-- words and then a number
abbrev pub told : List ℕ → ℤ → List ℕ
told words z = words ++ exact z

-- ---- nodes

-- a node, by a word and a name, so that a unit and a material of one name differ
abbrev pub node : List ℕ → List ℕ → List ℕ
node word name = 34 ∷ word ++ 32 ∷ name ++ 34 ∷ []

abbrev pub material_node : List ℕ → List ℕ
material_node name = node (codes "material") name

abbrev pub unit_node : List ℕ → List ℕ
unit_node name = node (codes "unit") name

-- the node of a material at one of its users, by both names
abbrev pub use_node : List ℕ → List ℕ → List ℕ
use_node material unit = node (codes "use") (material ++ 32 ∷ unit)

-- a node with its label, what a pointer on it shows, and its look
abbrev pub node_line : List ℕ → List ℕ → List ℕ → List ℕ → List ℕ
node_line which label tip look =
    32 ∷ 32 ∷ which
    ++ (codes " [label=\""
    ++ (label
    ++ (codes "\", tooltip=\"" ++ (tip ++ (34 ∷ 44 ∷ 32 ∷ look ++ 93 ∷ 59 ∷ [])))))

abbrev pub shape_words : Kind → List ℕ
shape_words raw_material = codes "shape=invhouse"
shape_words intermediate = codes "shape=ellipse"
shape_words product = codes "shape=ellipse, peripheries=2"

abbrev pub grey : List ℕ
grey = codes ", color=gray75, fontcolor=gray60"

abbrev pub grey_unless : Bool → List ℕ
grey_unless drawn = if drawn then [] else grey

-- ---- materials

abbrev pub limit_look : Bool → List ℕ
limit_look limited = if limited then codes ", style=filled, fillcolor=orange" else []

-- the look of a material that is in the network, and of another
abbrev pub drawn_look : Problem → Option Network → ℕ → List ℕ
drawn_look p None j = []
drawn_look p (Some w) j =
    if mats (shape_of p) (has w.units) j then limit_look (is_material_limited p w j)
    else grey

abbrev pub material_tip : Material → List ℕ
material_tip m =
    m.name
    ++ (told (codes ": price ") m.price
    ++ (told (codes ", from ") m.lower ++ told (codes " to ") m.upper))

abbrev pub material_line : Picture → ℕ → List ℕ
material_line d j =
    node_line (material_node (material_at d.problem j).name)
    ((material_at d.problem j).name ++ material_flow d.problem d.network j)
    (material_tip (material_at d.problem j))
    (shape_words (material_at d.problem j).kind ++ drawn_look d.problem d.network j)

-- ---- units

abbrev pub look_words : Role → List ℕ
look_words Planned = codes "shape=box, style=filled, fillcolor=palegreen"
look_words Running = codes "shape=box, style=filled, fillcolor=palegreen"
look_words AtLimit = codes "shape=box, style=filled, fillcolor=orange"
look_words Idle = codes "shape=box, style=dashed"
look_words LeftOut = codes "shape=box, color=gray75, fontcolor=gray60"

abbrev pub costs_tip : OperatingUnit → List ℕ
costs_tip u =
    told (codes ", fixed cost ") u.fix
    ++ (told (codes ", proportional cost ") u.proportional
    ++ (told (codes ", investment ") u.investment_fix
    ++ told (codes " and ") u.investment_proportional))

abbrev pub unit_tip : OperatingUnit → List ℕ
unit_tip u =
    u.name
    ++ (told (codes ": size from ") u.lower
    ++ (told (codes " to ") u.upper ++ costs_tip u))

abbrev pub unit_line : Picture → ℕ → List ℕ
unit_line d i =
    node_line (unit_node (unit_at d.problem i).name)
    ((unit_at d.problem i).name ++ unit_size d.problem d.network i)
    (unit_tip (unit_at d.problem i)) (look_words (role_of d.problem d.network i))

-- ---- arcs

-- the label of a rate; one of 1 is not shown
abbrev pub rate_label : ℤ → List ℕ
rate_label rate = if unsigned_abs rate == 1000000 then [] else codes ", label=\" "
    ++ (exact rate ++ 34 ∷ [])

-- the label of a flow, with the width of its arc
abbrev pub flow_label : Picture → Network → ℕ → ℕ → List ℕ
flow_label d w i j =
    codes ", weight=4, penwidth="
    ++ (width_words (greatest_flow d.problem d.network)
    (unsigned_abs (moved d.problem w i j))
    ++ (codes ", label=\" " ++ (arc_flow d.problem w i j ++ 34 ∷ [])))

-- the look of an arc in a network
abbrev pub look_in : Role → List ℕ → List ℕ
look_in Planned flow = []
look_in Running flow = flow
look_in AtLimit flow = flow
look_in Idle flow = codes ", weight=4, style=dashed"
look_in LeftOut flow = codes ", color=gray75"

abbrev pub arc_look : Picture → Option Network → ℕ → Term → List ℕ
arc_look d None i t = rate_label t.rate
arc_look d (Some w) i t =
    look_in (role_of d.problem (Some w) i) (flow_label d w i t.material)

-- what a pointer on it shows, as in the text of the plant
abbrev pub arc_tip : Picture → ℕ → Term → List ℕ
arc_tip d i t = (unit_at d.problem i).name
    ++ (told (codes ": ") t.rate ++ 32 ∷ (material_at d.problem t.material).name)

abbrev pub arc_end : Picture → ℕ → Term → List ℕ
arc_end d i t =
    codes " [tooltip=\""
    ++ (arc_tip d i t ++ 34 ∷ arc_look d d.network i t ++ 93 ∷ 59 ∷ [])

abbrev pub arc_line : List ℕ → List ℕ → List ℕ → List ℕ
arc_line from into end = 32 ∷ 32 ∷ from ++ (codes " -> " ++ (into ++ end))

-- a material that is drawn for this user alone, and the arc from it
abbrev pub use_look : Picture → ℕ → Kind → List ℕ
use_look d i kind = shape_words kind ++ grey_unless (is_built d.network i)

abbrev pub use_text : Picture → ℕ → ℕ → List ℕ
use_text d i j =
    32 ∷ 32 ∷ use_node (material_at d.problem j).name (unit_at d.problem i).name
    ++ (codes " [label=\"" ++ ((material_at d.problem j).name
    ++ (codes "\", fontsize=9, "
    ++ (use_look d i (material_at d.problem j).kind ++ 93 ∷ 59 ∷ []))))

abbrev pub use_arc : Picture → ℕ → Term → List ℕ
use_arc d i t =
    arc_line (use_node (material_at d.problem t.material).name (unit_at d.problem i).name)
    (unit_node (unit_at d.problem i).name) (arc_end d i t)

abbrev pub use_line : Picture → ℕ → Term → List ℕ
use_line d i t = use_text d i t.material ++ use_arc d i t

-- from a material to a unit that uses it, and from a unit to a material that it makes
abbrev pub plain_line : Picture → ℕ → Term → List ℕ
plain_line d i t =
    arc_line (material_node (material_at d.problem t.material).name)
    (unit_node (unit_at d.problem i).name) (arc_end d i t)

abbrev pub input_line : Picture → ℕ → Term → List ℕ
input_line d i t = if is_spread d t.material then use_line d i t else plain_line d i t

abbrev pub output_line : Picture → ℕ → Term → List ℕ
output_line d i t =
    arc_line (unit_node (unit_at d.problem i).name)
    (material_node (material_at d.problem t.material).name) (arc_end d i t)

-- a unit and its arcs
abbrev pub unit_lines : Picture → ℕ → List (List ℕ)
unit_lines d i =
    unit_line d i
    ∷ (map (input_line d i) (unit_at d.problem i).inputs
    ++ map (output_line d i) (unit_at d.problem i).outputs)

-- ---- a list of networks, best first

-- the cost in one year
abbrev pub cost_text : Problem → Network → List ℕ
cost_text p w =
    six_digits w.cost (1000000000000000000 * unsigned_abs p.payout * unsigned_abs w.d)

-- a comma and the units that a network takes in and leaves out, if there are any
abbrev pub change_words : List ℕ → List ℕ
change_words change = if length change == 0 then [] else 44 ∷ 32 ∷ change

-- what a network costs, and what that is above the cost of the first
abbrev pub cost_words : Problem → Network → Network → List ℕ
cost_words p first w =
    cost_text p w ++ (codes ", " ++ number_text (above_first p first w))

-- a network of the list: its place, its cost, and its units against the first
abbrev pub listed_words : Problem → Network → ℕ → Network → List ℕ
listed_words p first place w =
    decimal place
    ++ (codes ": " ++ (cost_words p first w ++ change_words (change_cell p first w)))

-- words as a further line of a label
abbrev pub label_line : List ℕ → List ℕ
label_line words = codes "    + \"" ++ (words ++ codes "\\l\"")

-- a line for each network, from a place on
abbrev pub listed_lines : Problem → Network → ℕ → List Network → List (List ℕ)
listed_lines p first place [] = []
listed_lines p first place (w ∷ ws) =
    label_line (listed_words p first place w) ∷ listed_lines p first (place + 1) ws

abbrev pub list_head : List (List ℕ)
list_head =
    codes
    "  networks [shape=note, fontsize=9, label=\"networks of the list, in one year; the first is drawn\\l\""
    ∷ codes "    + \"place: cost, above the first, units taken in (+) and left out (-)\\l\"" ∷ []

abbrev pub list_end : List (List ℕ)
list_end = codes "  ];" ∷ codes "  { rank=source; networks; }" ∷ []

-- the list as a node of many lines above all others; there is no such node without a list
abbrev pub list_lines : Problem → List Network → List (List ℕ)
list_lines p [] = []
list_lines p (w ∷ ws) = list_head ++ (listed_lines p w 1 (w ∷ ws) ++ list_end)

-- ---- the whole

abbrev pub sort_words : ℤ → List ℕ
sort_words cost =
    if int_lt cost (pos 0) then codes " (an income)\";" else codes " (a cost)\";"

abbrev pub head_lines : List (List ℕ)
head_lines =
    codes "digraph pns {"
    ∷ codes
    "  rankdir=TB; nodesep=0.2; ranksep=0.35; labelloc=t; fontname=\"Helvetica\"; fontsize=14;"
    ∷ codes
    "  node [fontname=\"Helvetica\", fontsize=11, margin=\"0.08,0.03\", height=0.25, width=0.4];"
    ∷ codes "  edge [fontname=\"Helvetica\", fontsize=9, arrowsize=0.6];" ∷ []

-- what the shapes and colours mean, in a node of many lines
abbrev pub legend : List (List ℕ)
legend =
    codes
    "  legend [shape=note, fontsize=9, label=\"house: raw material; double line: product; box: unit\\l\""
    ∷ codes "    + \"drawn at each user: a material with more than four\\l\"" ∷ []

abbrev pub rate_legend : List (List ℕ)
rate_legend = codes "    + \"at an arc: its rate, if not 1\\l\"];" ∷ []

abbrev pub flow_legend : List (List ℕ)
flow_legend =
    codes
    "    + \"at an arc: its flow; wider above 1/10, 1/4 and 1/2 of the greatest\\l\""
    ∷ codes "    + \"in, out: bought, left over; at its price: the money for it\\l\""
    ∷ codes "    + \"orange: at a limit; grey: left out; broken line: size 0\\l\"];" ∷ []

abbrev pub total_line : Problem → Network → List ℕ
total_line p w = codes "  label=\"claimed total in one year: "
    ++ (cost_text p w ++ sort_words w.cost)

abbrev pub total_lines : Problem → Option Network → List (List ℕ)
total_lines p None = legend ++ rate_legend
total_lines p (Some w) = legend ++ (flow_legend ++ total_line p w ∷ [])

abbrev pub last_lines : List (List ℕ)
last_lines = codes "  { rank=sink; legend; }" ∷ codes "}" ∷ []

abbrev pub picture_lines : Picture → List Network → List (List ℕ)
picture_lines d ws =
    head_lines
    ++ (total_lines d.problem d.network
    ++ (list_lines d.problem ws
    ++ (map (material_line d) (materials_of (net_of d.problem) d.units)
    ++ (flat_map (unit_lines d) (listed (length d.problem.units) d.units) ++ last_lines))))

-- the lines of the graph of the units t, with the list ws as a table
abbrev pub graph_lines : Problem → Option Network → List Network → (ℕ → Bool) → List (List ℕ)
graph_lines p w ws t = picture_lines (record { problem = p; network = w; units = t }) ws

-- the lines of the graph of a problem without a solution structure
abbrev pub empty_lines : List (List ℕ)
empty_lines = head_lines ++ codes "  label=\"no solution structure\";" ∷ codes "}" ∷ []
