-- What a token stands for at its place in a line, or what is wrong with it. Of several tokens the
-- fault with the least number is reported.
use Rattle.std.specs.Prelude.{◌==◌, ◌&&◌, ◌-◌, ◌^◌, ℕ, ℤ, pos, negsuc, Bool, true, false, nat_le}
use Rattle.std.specs.Prelude.{nat_lt, List, [], ◌∷◌, codes, drop, nat_eq, Option, Some, None}
use Rattle.std.specs.Prelude.{option_map, position, Result, Ok, Err, if◌then◌else◌}
use Rattle.std.specs.List.{starts_with}
use Rattle.std.specs.Str.{bytes_eq}
use Rattle.edit_rules.specs.problem_rules.Problem.{Problem, material_names, unit_names}
use Rattle.edit_rules.specs.problem_rules.Problem.{exclusion_names}
use Rattle.edit_rules.specs.ScriptFault.{whole_within}
use Rattle.tree_rules.specs.integer_laws.declared.which.Which.{Which}
use Rattle.tree_rules.specs.integer_laws.declared.which.Which.TheVariants as whiches
use Rattle.tree_rules.specs.flow_rules.declared.place.Column.{Column}
use Rattle.tree_rules.specs.flow_rules.declared.place.Column.TheVariants as columns
use Rattle.tree_rules.specs.flow_rules.declared.place.FlowStep.{FlowStep}
use Rattle.tree_rules.specs.flow_rules.declared.place.FlowStep.TheVariants as flows
use Rattle.tree_text_rules.specs.Line.{Token}
use Rattle.tree_text_rules.specs.declared.TreeKind.{TreeKind}
use Rattle.tree_text_rules.specs.declared.TreeKind.TheVariants.{FileType, BadLine, UnknownName}
use Rattle.tree_text_rules.specs.declared.TreeKind.TheVariants.{BadNumber, Order, WrongCount}
use Rattle.tree_text_rules.specs.declared.TreeKind.TheVariants.{MoreNodes, FewerNodes, AfterEnd}

-- ---- several values on one line

abbrev pub kind_number : TreeKind → ℕ
kind_number FileType = 1
kind_number BadLine = 2
kind_number UnknownName = 3
kind_number BadNumber = 4
kind_number Order = 5
kind_number WrongCount = 6
kind_number MoreNodes = 7
kind_number FewerNodes = 8
kind_number AfterEnd = 9

abbrev pub lesser : TreeKind → TreeKind → TreeKind
lesser kind other = if nat_le (kind_number kind) (kind_number other) then kind else other

abbrev pub both : {A B : Type 0} → Result A TreeKind → Result B TreeKind → Result (A × B) TreeKind
both (Ok a) (Ok b) = Ok (a, b)
both (Ok a) (Err kind) = Err kind
both (Err kind) (Ok b) = Err kind
both (Err kind) (Err other) = Err (lesser kind other)

abbrev pub mapped : {A B : Type 0} → (A → B) → Result A TreeKind → Result B TreeKind
mapped f (Ok a) = Ok (f a)
mapped f (Err kind) = Err kind

abbrev pub each : {A : Type 0} → (Token → Result A TreeKind) → List Token → Result (List A) TreeKind
each read [] = Ok []
each read (token ∷ tokens) =
    mapped (λ found. found.0 ∷ found.1) (both (read token) (each read tokens))

-- what was read, if it passes the test, else this kind of fault
abbrev pub judged : {A : Type 0} → (A → Bool) → TreeKind → Result A TreeKind → Result A TreeKind
judged test kind (Ok a) = if test a then Ok a else Err kind
judged test kind (Err other) = Err other

abbrev pub told : {A : Type 0} → TreeKind → Option A → Result A TreeKind
told kind (Some a) = Ok a
told kind None = Err kind

-- ---- names

abbrev pub unit_of : Problem → Token → Result ℕ TreeKind
unit_of p token = told UnknownName (position (λ name. bytes_eq name token) (unit_names p.units))

abbrev pub material_of : Problem → Token → Result ℕ TreeKind
material_of p token =
    told UnknownName (position (λ name. bytes_eq name token) (material_names p.materials))

abbrev pub exclusion_of : Problem → Token → Result ℕ TreeKind
exclusion_of p token =
    told UnknownName (position (λ name. bytes_eq name token) (exclusion_names p.exclusions))

abbrev pub is_above_all : ℕ → List ℕ → Bool
is_above_all x [] = true
is_above_all x (y ∷ ys) = nat_lt x y && is_above_all x ys

abbrev pub is_rising : List ℕ → Bool
is_rising [] = true
is_rising (x ∷ xs) = is_above_all x xs && is_rising xs

-- a set of units, in file order
abbrev pub units_of : Problem → List Token → Result (List ℕ) TreeKind
units_of p tokens = judged is_rising Order (each (unit_of p) tokens)

-- ---- numbers

-- the greatest absolute value
abbrev pub greatest : ℕ
greatest = 170141183460469231731687303715884105727

-- below 0: the digits after the minus sign, which stand for 1 or more
abbrev pub negative_of : Option ℕ → Option ℤ
negative_of None = None
negative_of (Some n) = if nat_le 1 n then Some (negsuc (n - 1)) else None

abbrev pub whole_number : Token → Option ℤ
whole_number [] = None
whole_number (c ∷ cs) =
    if c == 45 then negative_of (whole_within greatest cs) else option_map pos
    (whole_within greatest (c ∷ cs))

-- a whole number in range
abbrev pub number_of : Token → Result ℤ TreeKind
number_of token = told BadNumber (whole_number token)

abbrev pub is_positive : ℤ → Bool
is_positive (pos n) = nat_le 1 n
is_positive (negsuc n) = false

abbrev pub is_not_negative : ℤ → Bool
is_not_negative (pos n) = true
is_not_negative (negsuc n) = false

-- the weight of a set, at least 0
abbrev pub weight_of : Token → Result ℤ TreeKind
weight_of token = judged is_not_negative BadNumber (number_of token)

-- what sizes and cost are over, at least 1
abbrev pub denominator_of : Token → Result ℤ TreeKind
denominator_of token = judged is_positive BadNumber (number_of token)

-- the number of a node or of a step
abbrev pub count_of : Token → Result ℕ TreeKind
count_of token = told BadNumber (whole_within 4294967295 token)

-- how many children a branch has, at least 1
abbrev pub children_of : Token → Result ℕ TreeKind
children_of token = judged (nat_le 1) BadNumber (count_of token)

-- how many options there are
abbrev pub options_of : Token → Result ℕ TreeKind
options_of token = told BadNumber (whole_within (2 ^ 128 - 1) token)

-- ---- columns and places

abbrev pub begins : Token → Token → Bool
begins token front = starts_with nat_eq token front

abbrev pub column_of : Problem → Token → Result Column TreeKind
column_of p token =
    if begins token (codes "x:") then mapped columns.X (unit_of p (drop 2 token))
    else if begins token (codes "s:") then mapped columns.S (unit_of p (drop 2 token))
    else if begins token (codes "t:") then mapped columns.T (material_of p (drop 2 token))
    else if begins token (codes "w:") then mapped columns.W (material_of p (drop 2 token))
    else if bytes_eq token (codes "right") then Ok columns.Right
    else if bytes_eq token (codes "scale") then Ok columns.Scale
    else Err BadLine

-- the row of a basis column, or the cost row
abbrev pub row_of : Problem → Token → Result (Option Column) TreeKind
row_of p token =
    if bytes_eq token (codes "cost") then Ok None else mapped (λ column. Some column)
    (column_of p token)

abbrev pub which_of : Token → Result Which TreeKind
which_of token =
    if bytes_eq token (codes "left") then Ok whiches.Left
    else if bytes_eq token (codes "right") then Ok whiches.Right
    else if bytes_eq token (codes "difference") then Ok whiches.Difference
    else Err BadLine

abbrev pub flow_of : Token → Result FlowStep TreeKind
flow_of token =
    if bytes_eq token (codes "lcm") then Ok flows.Lcm
    else if bytes_eq token (codes "shift") then Ok flows.Shift
    else if bytes_eq token (codes "scaled") then Ok flows.Scaled
    else if bytes_eq token (codes "total") then Ok flows.Total
    else Err BadLine
