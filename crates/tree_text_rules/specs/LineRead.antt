-- What a line stands for at its place, or which fault it has. A line without the form of its place
-- has no other fault. But a node's line too many, and a node's line that is missing, are reported
-- before that.
use Rattle.std.specs.Prelude.{◌==◌, ℕ, ℤ, Bool, true, nat_lt, List, [], ◌∷◌, length}
use Rattle.std.specs.Prelude.{codes}
use Rattle.std.specs.Prelude.{Option}
use Rattle.std.specs.Prelude.{Some, None, Result, Ok, Err, if◌then◌else◌}
use Rattle.std.specs.Str.{bytes_eq}
use Rattle.edit_rules.specs.problem_rules.Problem.{Problem}
use Rattle.tree_rules.specs.pns_rules.Nodes as nodes
use Rattle.tree_rules.specs.flow_rules.declared.place.Column.{Column}
use Rattle.tree_rules.specs.flow_rules.declared.place.Place.{Place}
use Rattle.tree_rules.specs.flow_rules.declared.place.Place.TheVariants as places
use Rattle.tree_rules.specs.flow_rules.Cover.{Cover}
use Rattle.tree_rules.specs.Ways as ways
use Rattle.tree_rules.specs.Tree as trees
use Rattle.tree_rules.specs.Leaf as leaves
use Rattle.tree_rules.specs.Head as heads
use Rattle.tree_text_rules.specs.Line.{Token, Line, word_of, fields_of, is_formed}
use Rattle.tree_text_rules.specs.Line.{file_type}
use Rattle.tree_text_rules.specs.Token.{both, mapped, each, judged, unit_of, material_of}
use Rattle.tree_text_rules.specs.Token.{exclusion_of, units_of, number_of, weight_of}
use Rattle.tree_text_rules.specs.Token.{denominator_of, count_of, children_of, options_of}
use Rattle.tree_text_rules.specs.Token.{column_of, row_of, which_of, flow_of}
use Rattle.tree_text_rules.specs.declared.TreeKind.{TreeKind}
use Rattle.tree_text_rules.specs.declared.TreeKind.TheVariants.{FileType, BadLine}
use Rattle.tree_text_rules.specs.declared.TreeKind.TheVariants.{WrongCount}
use Rattle.tree_text_rules.specs.declared.TreeKind.TheVariants.{MoreNodes, FewerNodes}
use Rattle.tree_text_rules.specs.declared.Word.{Word}
use Rattle.tree_text_rules.specs.declared.Word.TheVariants as words

-- what is read of a line that has its form
abbrev pub formed : {A : Type 0} → Line → Result A TreeKind → Result A TreeKind
formed line read = if is_formed line then read else Err BadLine

-- the one token, or the two, after the first word
abbrev pub one : {A : Type 0} → (Token → Result A TreeKind) → List Token
    → Result A TreeKind
one read (token ∷ []) = read token
one read tokens = Err BadLine

abbrev pub two : {A B : Type 0} → (Token → Result A TreeKind)
    → (Token → Result B TreeKind)
    → List Token → Result (A × B) TreeKind
two read read' (token ∷ next ∷ []) = both (read token) (read' next)
two read read' tokens = Err BadLine

-- one token and then any number
abbrev pub one_and_more : {A B : Type 0} → (Token → Result A TreeKind)
    → (Token → Result B TreeKind)
    → List Token → Result (A × List B) TreeKind
one_and_more read read' (token ∷ tokens) = both (read token) (each read' tokens)
one_and_more read read' [] = Err BadLine

-- nothing after the first word
abbrev pub alone : {A : Type 0} → A → List Token → Result A TreeKind
alone a [] = Ok a
alone a (token ∷ tokens) = Err BadLine

-- ---- nodes

-- at the place of a step: a step, or none if the line is another
abbrev pub step_by : Problem → Option Word → List Token
    → Option (Result nodes.Step TreeKind)
step_by p (Some words.Raw) fields = Some (mapped nodes.raw (one (unit_of p) fields))
step_by p (Some words.Rival) fields = Some (mapped nodes.rival (one (unit_of p) fields))
step_by p (Some words.Starve) fields =
    Some (mapped nodes.starve (one (material_of p) fields))
step_by p (Some words.Loose) fields = Some (mapped nodes.loose (units_of p fields))
step_by p (Some words.Sole) fields =
    Some
    (mapped (λ found. nodes.sole found.0 found.1)
    (two (material_of p) (unit_of p) fields))
step_by p word fields = None

abbrev pub formed_step : Line → Option (Result nodes.Step TreeKind)
    → Option (Result nodes.Step TreeKind)
formed_step line None = None
formed_step line (Some read) = Some (formed line read)

abbrev pub step_read : Problem → Line → Option (Result nodes.Step TreeKind)
step_read p line = formed_step line (step_by p (word_of line) (fields_of line))

-- an open leaf: nothing, or a scale and multipliers
abbrev pub open_of : List Token → Result leaves.Leaf TreeKind
open_of [] = Ok (leaves.untried None)
open_of (token ∷ tokens) =
    mapped (λ found. leaves.untried (Some (record { d = found.0; ys = found.1 })))
    (one_and_more number_of number_of (token ∷ tokens))

-- the line of a charge, without the sets that come after it
abbrev pub end_by : Problem → Option Word → List Token
    → Result (trees.End leaves.Leaf) TreeKind
end_by p (Some words.Dead) fields =
    mapped (λ x. trees.leaf (leaves.dead x)) (one (material_of p) fields)
end_by p (Some words.Clash) fields =
    mapped (λ k. trees.leaf (leaves.clash k)) (one (exclusion_of p) fields)
end_by p (Some words.Refuted) fields =
    mapped (λ ys. trees.leaf (leaves.refuted ys)) (each number_of fields)
end_by p (Some words.Bound) fields =
    mapped (λ found. trees.leaf (leaves.bounded found.0 found.1))
    (one_and_more number_of number_of fields)
end_by p (Some words.Charge) fields =
    mapped
    (λ found. trees.leaf
    (leaves.charged (record { d = found.0; ys = found.1; covers = [] })))
    (one_and_more number_of number_of fields)
end_by p (Some words.Branch) fields =
    mapped (λ found. trees.branch (ways.at_material found.0 found.1))
    (two (material_of p) children_of fields)
end_by p (Some words.Either) fields =
    mapped (λ u. trees.branch (ways.either u)) (one (unit_of p) fields)
end_by p (Some words.Open) fields = mapped (λ l. trees.leaf l) (open_of fields)
end_by p word fields = Err BadLine

abbrev pub end_line_read : Problem → Line → Result (trees.End leaves.Leaf) TreeKind
end_line_read p line = formed line (end_by p (word_of line) (fields_of line))

-- ---- the sets of a charge

-- the names of a set, one at least
abbrev pub some_units : Problem → List Token → Result (List ℕ) TreeKind
some_units p [] = Err BadLine
some_units p (token ∷ tokens) = units_of p (token ∷ tokens)

-- a weight and the units of a set
abbrev pub set_of : Problem → List Token → Result Cover TreeKind
set_of p (weight ∷ names) =
    mapped (λ found. record { weight = found.0; beside = None; units = found.1 })
    (both (weight_of weight) (some_units p names))
set_of p [] = Err BadLine

-- a weight, the unit beside a set, and the units of the set
abbrev pub set_beside : Problem → List Token → Result Cover TreeKind
set_beside p (weight ∷ unit ∷ names) =
    mapped
    (λ found. record { weight = found.0; beside = Some found.1.0; units = found.1.1 })
    (both (weight_of weight) (both (unit_of p unit) (some_units p names)))
set_beside p fields = Err BadLine

-- where a set may come: a set, or none if the line is another
abbrev pub cover_by : Problem → Option Word → List Token → Option (Result Cover TreeKind)
cover_by p (Some words.SomeOf) fields = Some (set_of p fields)
cover_by p (Some words.With) fields = Some (set_beside p fields)
cover_by p word fields = None

abbrev pub formed_cover : Line → Option (Result Cover TreeKind)
    → Option (Result Cover TreeKind)
formed_cover line None = None
formed_cover line (Some read) = Some (formed line read)

abbrev pub cover_read : Problem → Line → Option (Result Cover TreeKind)
cover_read p line = formed_cover line (cover_by p (word_of line) (fields_of line))

-- after so many sets of a charge one more may come, as long as there are not a million
abbrev pub next_cover : Problem → List Cover → Line → Option (Result Cover TreeKind)
next_cover p covers line =
    if nat_lt (length covers) 1000000 then cover_read p line else None

-- ---- the lines of the head of a tree

-- a unit, the size that it may have at most, and a charge
abbrev pub cap_of : Problem → List Token → Result heads.HeadLine TreeKind
cap_of p (unit ∷ size ∷ fields) =
    mapped (λ found. heads.cap found.0 found.1.0 found.1.1.0 found.1.1.1 [])
    (both (unit_of p unit) (both (weight_of size) (one_and_more number_of number_of fields)))
cap_of p fields = Err BadLine

-- a unit that is left out, and a charge
abbrev pub out_of : Problem → List Token → Result heads.HeadLine TreeKind
out_of p (unit ∷ fields) =
    mapped (λ found. heads.out found.0 found.1.0 found.1.1 [])
    (both (unit_of p unit) (one_and_more number_of number_of fields))
out_of p [] = Err BadLine

-- a material, the amount of which no more is used, what its use is worth, and a charge
abbrev pub use_of : Problem → List Token → Result heads.HeadLine TreeKind
use_of p (material ∷ amount ∷ worth ∷ fields) =
    mapped
    (λ found. heads.uses
    (record { of = found.0; amount = found.1.0; worth = found.1.1.0 }) found.1.1.1.0
    found.1.1.1.1 [])
    (both (material_of p material)
    (both (weight_of amount)
    (both (weight_of worth) (one_and_more number_of number_of fields))))
use_of p fields = Err BadLine

abbrev pub head_step : Option (Result nodes.Step TreeKind)
    → Option (Result heads.HeadLine TreeKind)
head_step None = None
head_step (Some read) = Some (mapped heads.step read)

-- before the first node: a line of the head without its sets, or none if the line is another
abbrev pub head_by : Problem → Option Word → List Token
    → Option (Result heads.HeadLine TreeKind)
head_by p (Some words.Cap) fields = Some (cap_of p fields)
head_by p (Some words.Out) fields = Some (out_of p fields)
head_by p (Some words.Trim) fields = Some (mapped heads.trim (one (unit_of p) fields))
head_by p (Some words.Use) fields = Some (use_of p fields)
head_by p word fields = head_step (step_by p word fields)

abbrev pub formed_head : Line → Option (Result heads.HeadLine TreeKind)
    → Option (Result heads.HeadLine TreeKind)
formed_head line None = None
formed_head line (Some read) = Some (formed line read)

abbrev pub head_read : Problem → Line → Option (Result heads.HeadLine TreeKind)
head_read p line = formed_head line (head_by p (word_of line) (fields_of line))

-- the sets of a line, if it may have some
abbrev pub sets_of : heads.HeadLine → Option (List Cover)
sets_of (heads.step s) = None
sets_of (heads.cap u v d ys covers) = Some covers
sets_of (heads.out u d ys covers) = Some covers
sets_of (heads.trim u) = None
sets_of (heads.uses q d ys covers) = Some covers

abbrev pub next_among : Problem → Option (List Cover) → Line → Option (Result Cover TreeKind)
next_among p None line = None
next_among p (Some covers) line = next_cover p covers line

-- ---- the lines that begin nodes

-- where a node's line must come
abbrev pub option_by : Problem → Option Word → List Token → Bool
    → Result (List ℕ) TreeKind
option_by p (Some words.Node) fields true = units_of p fields
option_by p (Some words.Spent) fields is_formed = Err FewerNodes
option_by p (Some words.Past) fields is_formed = Err FewerNodes
option_by p (Some words.End) fields is_formed = Err FewerNodes
option_by p word fields is_formed = Err BadLine

abbrev pub option_read : Problem → Line → Result (List ℕ) TreeKind
option_read p line = option_by p (word_of line) (fields_of line) (is_formed line)

-- at the place of the root's line, which has no names
abbrev pub root_by : Option Word → List Token → Bool → Result (List ℕ) TreeKind
root_by (Some words.Node) fields true = alone [] fields
root_by (Some words.Spent) fields is_formed = Err FewerNodes
root_by (Some words.Past) fields is_formed = Err FewerNodes
root_by (Some words.End) fields is_formed = Err FewerNodes
root_by word fields is_formed = Err BadLine

abbrev pub root_read : Line → Result (List ℕ) TreeKind
root_read line = root_by (word_of line) (fields_of line) (is_formed line)

-- ---- claims

-- what the first line of a claim says
pub data Opening : Type 0 where
  network : List ℕ → Opening
  infeasible : Opening
  unknown : Opening

abbrev pub opening_by : Problem → Option Word → List Token → Result Opening TreeKind
opening_by p (Some words.Network) fields = mapped network (units_of p fields)
opening_by p (Some words.Infeasible) fields = alone infeasible fields
opening_by p (Some words.Unknown) fields = alone unknown fields
opening_by p word fields = Err BadLine

abbrev pub opening_read : Problem → Line → Result Opening TreeKind
opening_read p line = formed line (opening_by p (word_of line) (fields_of line))

abbrev pub network_by : Problem → Option Word → List Token → Result (List ℕ) TreeKind
network_by p (Some words.Network) fields = units_of p fields
network_by p word fields = Err BadLine

abbrev pub network_line_read : Problem → Line → Result (List ℕ) TreeKind
network_line_read p line = formed line (network_by p (word_of line) (fields_of line))

-- as many sizes as units
abbrev pub sizes_by : ℕ → Option Word → List Token → Result (ℤ × List ℤ) TreeKind
sizes_by count (Some words.Sizes) fields =
    judged (λ found. length found.1 == count) WrongCount
    (one_and_more denominator_of number_of fields)
sizes_by count word fields = Err BadLine

abbrev pub sizes_read : ℕ → Line → Result (ℤ × List ℤ) TreeKind
sizes_read count line = formed line (sizes_by count (word_of line) (fields_of line))

abbrev pub cost_by : Option Word → List Token → Result ℤ TreeKind
cost_by (Some words.Cost) fields = one number_of fields
cost_by word fields = Err BadLine

abbrev pub cost_read : Line → Result ℤ TreeKind
cost_read line = formed line (cost_by (word_of line) (fields_of line))

-- ---- tails

-- what is read of a line of the tail; here a node's line is one too many
abbrev pub behind_nodes : {A : Type 0} → Option Word → Result A TreeKind
    → Result A TreeKind
behind_nodes (Some words.Node) read = Err MoreNodes
behind_nodes word read = read

-- what the first line of a tail says
pub data TailOpening : Type 0 where
  whole : TailOpening
  spent : ℕ → ℕ → TailOpening
  past : ℕ → TailOpening

abbrev pub tail_opening_by : Option Word → List Token → Result TailOpening TreeKind
tail_opening_by (Some words.End) fields = alone whole fields
tail_opening_by (Some words.Spent) fields =
    mapped (λ found. spent found.0 found.1) (two count_of options_of fields)
tail_opening_by (Some words.Past) fields = mapped past (one count_of fields)
tail_opening_by word fields = Err BadLine

abbrev pub tail_opening_read : Line → Result TailOpening TreeKind
tail_opening_read line =
    behind_nodes (word_of line)
    (formed line (tail_opening_by (word_of line) (fields_of line)))

abbrev pub nonbasic_by : Problem → Option Word → List Token
    → Result (List Column) TreeKind
nonbasic_by p (Some words.Nonbasic) fields = each (column_of p) fields
nonbasic_by p word fields = Err BadLine

abbrev pub nonbasic_read : Problem → Line → Result (List Column) TreeKind
nonbasic_read p line =
    behind_nodes (word_of line)
    (formed line (nonbasic_by p (word_of line) (fields_of line)))

abbrev pub entry_of : Problem → List Token → Result Place TreeKind
entry_of p (leave ∷ enter ∷ row ∷ column ∷ which ∷ []) =
    mapped
    (λ found. places.Entry found.0 found.1.0 found.1.1.0 found.1.1.1.0 found.1.1.1.1)
    (both (column_of p leave)
    (both (column_of p enter)
    (both (row_of p row) (both (column_of p column) (which_of which)))))
entry_of p fields = Err BadLine

abbrev pub place_of : Problem → List Token → Result Place TreeKind
place_of p [] = Err BadLine
place_of p (word ∷ fields) =
    if bytes_eq word (codes "entry") then entry_of p fields
    else if bytes_eq word (codes "flow") then mapped
    (λ found. places.Flow found.0 found.1)
    (two (unit_of p) flow_of fields)
    else if bytes_eq word (codes "cost") then mapped places.Cost (one count_of fields)
    else if bytes_eq word (codes "flowsum") then mapped places.FlowSum
    (one count_of fields)
    else if bytes_eq word (codes "bound") then mapped places.Bound (one count_of fields)
    else if bytes_eq word (codes "refute") then mapped
    (λ found. places.Refute found.0 found.1)
    (two (column_of p) count_of fields)
    else Err BadLine

abbrev pub place_by : Problem → Option Word → List Token → Result Place TreeKind
place_by p (Some words.Place) fields = place_of p fields
place_by p word fields = Err BadLine

abbrev pub place_read : Problem → Line → Result Place TreeKind
place_read p line =
    behind_nodes (word_of line) (formed line (place_by p (word_of line) (fields_of line)))

-- the last line
abbrev pub close_by : Option Word → List Token → Result (Unit {0}) TreeKind
close_by (Some words.End) fields = alone tt fields
close_by word fields = Err BadLine

abbrev pub close_read : Line → Result (Unit {0}) TreeKind
close_read line =
    behind_nodes (word_of line) (formed line (close_by (word_of line) (fields_of line)))

-- ---- the first line of a text

abbrev pub file_type_read : Line → Result (Unit {0}) TreeKind
file_type_read line =
    if line.ended then (if bytes_eq line.text file_type then Ok tt else Err FileType)
    else Err
    FileType
