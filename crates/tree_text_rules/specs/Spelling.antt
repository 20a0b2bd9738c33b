-- The one text of a claim, a tree and a tail, and of its parts, as lists of lines. A line is its
-- tokens, separated by one space, and then a line feed. Units of a set are in file order.
use Rattle.std.specs.Prelude.{ℕ, ℤ, List, [], ◌∷◌, ◌++◌, map, flat_map, codes, decimal, Option}
use Rattle.std.specs.Prelude.{Some, None}
use Rattle.std.specs.Fmt.{signed_decimal}
use Rattle.edit_rules.specs.problem_rules.Problem.{Problem, unit_at, material_at, exclusion_at}
use Rattle.tree_rules.specs.pns_rules.Nodes as nodes
use Rattle.edit_rules.specs.text_rules.Canonical.{joined}
use Rattle.tree_rules.specs.integer_laws.declared.which.Which.{Which}
use Rattle.tree_rules.specs.integer_laws.declared.which.Which.TheVariants as whiches
use Rattle.tree_rules.specs.flow_rules.declared.place.Column.{Column}
use Rattle.tree_rules.specs.flow_rules.declared.place.Column.TheVariants as columns
use Rattle.tree_rules.specs.flow_rules.declared.place.FlowStep.{FlowStep}
use Rattle.tree_rules.specs.flow_rules.declared.place.FlowStep.TheVariants as flows
use Rattle.tree_rules.specs.flow_rules.declared.place.Place.{Place}
use Rattle.tree_rules.specs.flow_rules.declared.place.Place.TheVariants as places
use Rattle.tree_rules.specs.flow_rules.Cover.{Cover}
use Rattle.tree_rules.specs.Ways as ways
use Rattle.tree_rules.specs.Tree as trees
use Rattle.tree_rules.specs.Leaf as leaves
use Rattle.tree_rules.specs.Claim as claims
use Rattle.tree_rules.specs.Accepted.{Tree}
use Rattle.tree_rules.specs.Tail as tails
use Rattle.tree_rules.specs.Head as heads
use Rattle.tree_text_rules.specs.Line.{Token, file_type, word_text}
use Rattle.tree_text_rules.specs.declared.Word.TheVariants as words

abbrev pub unit_name : Problem → ℕ → Token
unit_name p u = (unit_at p u).name

abbrev pub material_name : Problem → ℕ → Token
material_name p x = (material_at p x).name

abbrev pub exclusion_name : Problem → ℕ → Token
exclusion_name p k = (exclusion_at p k).name

-- ---- nodes

abbrev pub step_line : Problem → nodes.Step → List Token
step_line p (nodes.raw u) = word_text words.Raw ∷ unit_name p u ∷ []
step_line p (nodes.rival u) = word_text words.Rival ∷ unit_name p u ∷ []
step_line p (nodes.starve x) = word_text words.Starve ∷ material_name p x ∷ []
step_line p (nodes.loose us) = word_text words.Loose ∷ map (unit_name p) us
step_line p (nodes.sole x u) = word_text words.Sole ∷ material_name p x ∷ unit_name p u ∷ []

-- of a charge its first line
abbrev pub end_line : Problem → trees.End leaves.Leaf → List Token
end_line p (trees.leaf (leaves.dead x)) = word_text words.Dead ∷ material_name p x ∷ []
end_line p (trees.leaf (leaves.clash k)) = word_text words.Clash ∷ exclusion_name p k ∷ []
end_line p (trees.leaf (leaves.refuted ys)) = word_text words.Refuted ∷ map signed_decimal ys
end_line p (trees.leaf (leaves.bounded d ys)) =
    word_text words.Bound ∷ signed_decimal d ∷ map signed_decimal ys
end_line p (trees.leaf (leaves.charged h)) =
    word_text words.Charge ∷ signed_decimal h.d ∷ map signed_decimal h.ys
end_line p (trees.leaf (leaves.untried None)) = word_text words.Open ∷ []
end_line p (trees.leaf (leaves.untried (Some low))) =
    word_text words.Open ∷ signed_decimal low.d ∷ map signed_decimal low.ys
end_line p (trees.branch (ways.at_material x c)) =
    word_text words.Branch ∷ material_name p x ∷ decimal c ∷ []
end_line p (trees.branch (ways.either u)) = word_text words.Either ∷ unit_name p u ∷ []

abbrev pub set_line : Problem → ℤ → Option ℕ → List ℕ → List Token
set_line p weight None units =
    word_text words.SomeOf ∷ signed_decimal weight ∷ map (unit_name p) units
set_line p weight (Some u) units =
    word_text words.With ∷ signed_decimal weight ∷ unit_name p u ∷ map (unit_name p) units

abbrev pub cover_line : Problem → Cover → List Token
cover_line p c = set_line p c.weight c.beside c.units

-- the sets of an end
abbrev pub covers_in : trees.End leaves.Leaf → List Cover
covers_in (trees.branch w) = []
covers_in (trees.leaf (leaves.dead x)) = []
covers_in (trees.leaf (leaves.clash k)) = []
covers_in (trees.leaf (leaves.refuted ys)) = []
covers_in (trees.leaf (leaves.bounded d ys)) = []
covers_in (trees.leaf (leaves.charged h)) = h.covers
covers_in (trees.leaf (leaves.untried low)) = []

-- the line of an end, and after it those of its sets
abbrev pub end_with_sets : Problem → trees.End leaves.Leaf → List (List Token)
end_with_sets p end = end_line p end ∷ map (cover_line p) (covers_in end)

abbrev pub option_line : Problem → List ℕ → List Token
option_line p us = word_text words.Node ∷ map (unit_name p) us

-- a node's line and its steps
abbrev pub head_lines : Problem → List ℕ → List nodes.Step → List (List Token)
head_lines p option steps = option_line p option ∷ map (step_line p) steps

abbrev pub node_lines : Problem → trees.TreeNode leaves.Leaf → List (List Token)
node_lines p t = head_lines p t.option t.steps ++ end_with_sets p t.end

abbrev pub tree_lines : Problem → Tree → List (List Token)
tree_lines p tree = flat_map (node_lines p) tree

-- ---- heads of trees

-- of a line with sets its first line
abbrev pub front_line : Problem → heads.HeadLine → List Token
front_line p (heads.step s) = step_line p s
front_line p (heads.cap u v d ys covers) =
    word_text words.Cap ∷ unit_name p u ∷ signed_decimal v ∷ signed_decimal d
    ∷ map signed_decimal ys
front_line p (heads.out u d ys covers) =
    word_text words.Out ∷ unit_name p u ∷ signed_decimal d ∷ map signed_decimal ys
front_line p (heads.trim u) = word_text words.Trim ∷ unit_name p u ∷ []
front_line p (heads.uses q d ys covers) =
    word_text words.Use ∷ material_name p q.of ∷ signed_decimal q.amount
    ∷ signed_decimal q.worth ∷ signed_decimal d ∷ map signed_decimal ys

abbrev pub sets_in : heads.HeadLine → List Cover
sets_in (heads.step s) = []
sets_in (heads.cap u v d ys covers) = covers
sets_in (heads.out u d ys covers) = covers
sets_in (heads.trim u) = []
sets_in (heads.uses q d ys covers) = covers

abbrev pub front_with_sets : Problem → heads.HeadLine → List (List Token)
front_with_sets p line = front_line p line ∷ map (cover_line p) (sets_in line)

abbrev pub front_lines : Problem → List heads.HeadLine → List (List Token)
front_lines p head = flat_map (front_with_sets p) head

-- ---- claims

-- the sizes and the cost of a network
abbrev pub sizes_lines : ℤ → List ℤ → ℤ → List (List Token)
sizes_lines d sizes cost =
    (word_text words.Sizes ∷ signed_decimal d ∷ map signed_decimal sizes)
    ∷ (word_text words.Cost ∷ signed_decimal cost ∷ [])
    ∷ []

abbrev pub network_lines : Problem → claims.Network → List (List Token)
network_lines p w = (word_text words.Network ∷ map (unit_name p) w.units)
    ∷ sizes_lines w.d w.sizes w.cost

abbrev pub claim_lines : Problem → claims.Claim → List (List Token)
claim_lines p (claims.network w) = network_lines p w
claim_lines p claims.infeasible = (word_text words.Infeasible ∷ []) ∷ []
claim_lines p claims.unknown = (word_text words.Unknown ∷ []) ∷ []

-- ---- tails

abbrev pub column_text : Problem → Column → Token
column_text p (columns.X u) = codes "x:" ++ unit_name p u
column_text p (columns.S u) = codes "s:" ++ unit_name p u
column_text p (columns.T x) = codes "t:" ++ material_name p x
column_text p (columns.W x) = codes "w:" ++ material_name p x
column_text p columns.Right = codes "right"
column_text p columns.Scale = codes "scale"

-- the row of a basis column, or the cost row
abbrev pub row_text : Problem → Option Column → Token
row_text p (Some column) = column_text p column
row_text p None = codes "cost"

abbrev pub which_text : Which → Token
which_text whiches.Left = codes "left"
which_text whiches.Right = codes "right"
which_text whiches.Difference = codes "difference"

abbrev pub flow_text : FlowStep → Token
flow_text flows.Lcm = codes "lcm"
flow_text flows.Shift = codes "shift"
flow_text flows.Scaled = codes "scaled"
flow_text flows.Total = codes "total"

abbrev pub place_fields : Problem → Place → List Token
place_fields p (places.Entry leave enter row column which) =
    codes "entry" ∷ column_text p leave ∷ column_text p enter ∷ row_text p row
    ∷ column_text p column ∷ which_text which ∷ []
place_fields p (places.Flow unit which) = codes "flow" ∷ unit_name p unit ∷ flow_text which ∷ []
place_fields p (places.Cost at) = codes "cost" ∷ decimal at ∷ []
place_fields p (places.FlowSum at) = codes "flowsum" ∷ decimal at ∷ []
place_fields p (places.Bound at) = codes "bound" ∷ decimal at ∷ []
place_fields p (places.Refute row at) = codes "refute" ∷ column_text p row ∷ decimal at ∷ []

abbrev pub place_lines : Problem → List Column → Place → List (List Token)
place_lines p nonbasic place =
    (word_text words.Nonbasic ∷ map (column_text p) nonbasic)
    ∷ (word_text words.Place ∷ place_fields p place)
    ∷ []

abbrev pub end_lines : List (List Token)
end_lines = (word_text words.End ∷ []) ∷ []

abbrev pub spent_lines : ℕ → ℕ → List (List Token)
spent_lines next options = (word_text words.Spent ∷ decimal next ∷ decimal options ∷ []) ∷ end_lines

abbrev pub past_lines : Problem → ℕ → List Column → Place → List (List Token)
past_lines p node nonbasic place =
    (word_text words.Past ∷ decimal node ∷ []) ∷ (place_lines p nonbasic place ++ end_lines)

-- a tail and the last line
abbrev pub tail_lines : Problem → tails.Tail → List (List Token)
tail_lines p tails.whole = end_lines
tail_lines p (tails.spent next options) = spent_lines next options
tail_lines p (tails.past node nonbasic place) = past_lines p node nonbasic place

-- ---- the text

-- all lines but the first
abbrev pub rest_lines : Problem → claims.Claim → Tree → tails.Tail → List (List Token)
rest_lines p claim tree tail = claim_lines p claim ++ (tree_lines p tree ++ tail_lines p tail)

abbrev pub tree_text_lines : Problem → claims.Claim → Tree → tails.Tail → List (List Token)
tree_text_lines p claim tree tail = (file_type ∷ []) ∷ rest_lines p claim tree tail

-- the bytes of a line, and of lines
abbrev pub line_text : List Token → List ℕ
line_text tokens = joined 32 tokens ++ 10 ∷ []

abbrev pub text_of : List (List Token) → List ℕ
text_of lines = flat_map line_text lines

-- the one text of a claim, a tree and a tail
abbrev pub tree_text : Problem → claims.Claim → Tree → tails.Tail → List ℕ
tree_text p claim tree tail = text_of (tree_text_lines p claim tree tail)

-- ---- the text of a tree with a head

abbrev pub headed_rest_lines
    : Problem → claims.Claim → List heads.HeadLine → Tree → tails.Tail → List (List Token)
headed_rest_lines p claim head tree tail =
    claim_lines p claim ++ (front_lines p head ++ (tree_lines p tree ++ tail_lines p tail))

abbrev pub headed_text_lines
    : Problem → claims.Claim → List heads.HeadLine → Tree → tails.Tail → List (List Token)
headed_text_lines p claim head tree tail =
    (file_type ∷ []) ∷ headed_rest_lines p claim head tree tail

-- the one text of a claim, a head, a tree and a tail; if the head has no lines, that of the others
abbrev pub headed_text
    : Problem → claims.Claim → List heads.HeadLine → Tree → tails.Tail → List ℕ
headed_text p claim head tree tail = text_of (headed_text_lines p claim head tree tail)
