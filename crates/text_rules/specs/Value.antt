-- The problem that a text without faults of form stands for, and its faults of meaning. Sections
-- may be in any order, so a value is looked up in all lines: a default counts for the lines before
-- it too.
use Rattle.std.specs.Prelude.{◌&&◌, ◌||◌, ◌+◌, ◌/◌, ℕ, Bool, List, [], ◌∷◌, ◌++◌, length, map}
use Rattle.std.specs.Prelude.{filter, codes, not, Option, Some, None, Result, Ok, Err, find}
use Rattle.std.specs.Prelude.{position, unwrap_or, option_map, ℤ, pos, unsigned_abs, int_lt}
use Rattle.std.specs.Prelude.{if◌then◌else◌}
use Rattle.std.specs.List.{list_any}
use Rattle.std.specs.Str.{bytes_eq}
use Rattle.text_rules.specs.declared.TextKind.{TextKind}
use Rattle.text_rules.specs.declared.TextKind.TheVariants.{LowAboveHigh, UnknownMaterial, NoRates}
use Rattle.text_rules.specs.declared.TextKind.TheVariants.{NoProduct, UnknownUnit}
use Rattle.problem_rules.specs.Names.{is_among}
use Rattle.problem_rules.specs.Problem.{Kind, raw_material, intermediate, product, is_product}
use Rattle.problem_rules.specs.Problem.{Material, Term, OperatingUnit, Exclusion, Problem}
use Rattle.text_rules.specs.declared.Section.{Section}
use Rattle.text_rules.specs.declared.Section.TheVariants.{Preamble, MeasurementUnits, Defaults}
use Rattle.text_rules.specs.declared.Section.TheVariants.{Materials, OperatingUnits, Rates}
use Rattle.text_rules.specs.declared.Section.TheVariants.{Exclusions}
use Rattle.text_rules.specs.Line.{Placed, lines_of, lines_at, heads_at, head_of, meant_of}
use Rattle.text_rules.specs.Field.{key_of, value_of, items_of, keyed, is_keyed, material_type}
use Rattle.text_rules.specs.Field.{payout_period, for_material, for_unit}
use Rattle.text_rules.specs.Term.{Pair, pairs_at}
use Rattle.text_rules.specs.Fault.{Fault, fault_or, form_fault, millionths, names_of}

-- ---- values

-- the fields of a line of items
abbrev pub item_fields : List (List ℕ) → List (List ℕ × List ℕ)
item_fields items = map keyed (filter is_keyed items)

abbrev pub fields_at : List ℕ → List (List ℕ × List ℕ)
fields_at text = item_fields (items_of text)

-- the keys of the defaults with their values
abbrev pub default_fields : List Placed → List (List ℕ × List ℕ)
default_fields lines =
    map (λ (line : Placed). (key_of line.text, value_of line.text)) (lines_at Defaults lines)

-- the value of the first field of this key
abbrev pub value_at : List ℕ → List (List ℕ × List ℕ) → Option (List ℕ)
value_at key fields = option_map (λ field. field.1) (find (λ field. bytes_eq field.0 key) fields)

-- a value that was given, or else the default
abbrev pub number_or : Option (List ℕ) → ℤ → ℤ
number_or None default = default
number_or (Some text) default = millionths text

-- the number of this key, or else the default
abbrev pub number_at : List ℕ → List (List ℕ × List ℕ) → ℤ → ℤ
number_at key fields default = number_or (value_at key fields) default

abbrev pub kind_of : List ℕ → Kind
kind_of word =
    if bytes_eq word (codes "raw_material") then raw_material else if bytes_eq word
    (codes "product") then product else intermediate

abbrev pub kind_or : Option (List ℕ) → Kind → Kind
kind_or None default = default
kind_or (Some word) default = kind_of word

-- What applies to materials and units whose lines do not say otherwise. Prices, bounds and costs
-- are in millionths.
pub record Settings : Type 0 where
  pub kind : Kind
  pub price : ℤ
  pub flow_lower : ℤ
  pub flow_upper : ℤ
  pub capacity_lower : ℤ
  pub capacity_upper : ℤ
  pub fix : ℤ
  pub proportional : ℤ
  pub investment_fix : ℤ
  pub investment_proportional : ℤ

-- 10^9, in millionths
abbrev pub much : ℤ
much = pos 1000000000000000

-- the defaults of the text, and for the others the values that are built in
abbrev pub settings_from : List (List ℕ × List ℕ) → Settings
settings_from fields = record {
  kind = kind_or (value_at material_type fields) intermediate;
  price = number_at (for_material (codes "price")) fields (pos 0);
  flow_lower = number_at (for_material (codes "flow_rate_lower_bound")) fields (pos 0);
  flow_upper = number_at (for_material (codes "flow_rate_upper_bound")) fields much;
  capacity_lower = number_at (for_unit (codes "capacity_lower_bound")) fields (pos 0);
  capacity_upper = number_at (for_unit (codes "capacity_upper_bound")) fields much;
  fix = number_at (for_unit (codes "fix_cost")) fields (pos 0);
  proportional = number_at (for_unit (codes "proportional_cost")) fields (pos 0);
  investment_fix = number_at (for_unit (codes "investment_fix_cost")) fields (pos 0);
  investment_proportional =
      number_at (for_unit (codes "investment_proportional_cost")) fields (pos 0);
}

abbrev pub settings_of : List Placed → Settings
settings_of lines = settings_from (default_fields lines)

-- ---- the problem

abbrev pub material_from : Settings → List ℕ → List (List ℕ × List ℕ) → Material
material_from s name fields = record {
  name = name;
  kind = kind_or (value_at material_type fields) s.kind;
  price = number_at (codes "price") fields s.price;
  lower = number_at (codes "flow_rate_lower_bound") fields s.flow_lower;
  upper = number_at (codes "flow_rate_upper_bound") fields s.flow_upper;
}

abbrev pub unit_from : Settings → List ℕ → List (List ℕ × List ℕ) → List Term → List Term
    → OperatingUnit
unit_from s name fields inputs outputs = record {
  name = name;
  lower = number_at (codes "capacity_lower_bound") fields s.capacity_lower;
  upper = number_at (codes "capacity_upper_bound") fields s.capacity_upper;
  fix = number_at (codes "fix_cost") fields s.fix;
  proportional = number_at (codes "proportional_cost") fields s.proportional;
  investment_fix = number_at (codes "investment_fix_cost") fields s.investment_fix;
  investment_proportional =
      number_at (codes "investment_proportional_cost") fields s.investment_proportional;
  inputs = inputs;
  outputs = outputs;
}

abbrev pub materials_from : Settings → List Placed → List Material
materials_from s lines =
    map (λ (line : Placed). material_from s (head_of line.text) (fields_at line.text))
    (lines_at Materials lines)

-- a term, with the number of its material among the names
abbrev pub term_from : List (List ℕ) → Pair → Term
term_from names term = record {
  material = unwrap_or (position (λ name. bytes_eq name term.1) names) 0;
  rate = millionths term.0;
}

abbrev pub both_from : List (List ℕ) → List Pair × List Pair → List Term × List Term
both_from names both = (map (term_from names) both.0, map (term_from names) both.1)

-- the terms of the line of rates that has the name
abbrev pub sides_or : List (List ℕ) → Option Placed → List Term × List Term
sides_or names None = ([], [])
sides_or names (Some line) = both_from names (pairs_at line.text)

abbrev pub sides_named : List (List ℕ) → List Placed → List ℕ → List Term × List Term
sides_named names lines name =
    sides_or names
    (find (λ (line : Placed). bytes_eq (head_of line.text) name) (lines_at Rates lines))

-- a unit with a line of its own
abbrev pub listed_unit : Settings → List (List ℕ) → List Placed → List ℕ → OperatingUnit
listed_unit s names lines text =
    unit_from s (head_of text) (fields_at text) (sides_named names lines (head_of text)).0
    (sides_named names lines (head_of text)).1

-- a unit with a line of rates alone
abbrev pub bare_unit : Settings → List (List ℕ) → List Placed → List ℕ → OperatingUnit
bare_unit s names lines text =
    unit_from s (head_of text) [] (sides_named names lines (head_of text)).0
    (sides_named names lines (head_of text)).1

-- the lines of rates of units without a line of their own
abbrev pub bare_lines : List (List ℕ) → List Placed → List Placed
bare_lines units lines =
    filter (λ (line : Placed). not (is_among units (head_of line.text))) (lines_at Rates lines)

abbrev pub units_from : Settings → List (List ℕ) → List Placed → List OperatingUnit
units_from s names lines =
    map (λ (line : Placed). listed_unit s names lines line.text) (lines_at OperatingUnits lines)
    ++ map (λ (line : Placed). bare_unit s names lines line.text)
    (bare_lines (heads_at OperatingUnits lines) lines)

-- the names of the units, in their order
abbrev pub unit_names_from : List Placed → List (List ℕ)
unit_names_from lines =
    heads_at OperatingUnits lines
    ++ map (λ (line : Placed). head_of line.text) (bare_lines (heads_at OperatingUnits lines) lines)

-- The numbers of the names that are among the words, counted from k. So an exclusion's units rise,
-- whatever their order in the text.
abbrev pub numbers_among : List (List ℕ) → ℕ → List (List ℕ) → List ℕ
numbers_among words k [] = []
numbers_among words k (name ∷ names) =
    if is_among words name then k
    ∷ numbers_among words (k + 1) names else numbers_among words (k + 1) names

-- the exclusion of this name with these members
abbrev pub exclusion_named : List (List ℕ) → List ℕ → List (List ℕ) → Exclusion
exclusion_named units name members = record { name = name; units = numbers_among members 0 units }

abbrev pub exclusions_from : List (List ℕ) → List Placed → List Exclusion
exclusions_from units lines =
    map (λ (line : Placed). exclusion_named units (head_of line.text) (items_of line.text))
    (lines_at Exclusions lines)

-- the payout period in whole years
abbrev pub payout_from : List Placed → ℤ
payout_from lines =
    pos (unsigned_abs (number_at payout_period (default_fields lines) (pos 1000000)) / 1000000)

-- the problem that the lines of a text stand for; only lines that have a meaning are given
abbrev pub problem_from : List Placed → Problem
problem_from lines = record {
  materials = materials_from (settings_of lines) lines;
  units = units_from (settings_of lines) (heads_at Materials lines) lines;
  exclusions = exclusions_from (unit_names_from lines) lines;
  payout = payout_from lines;
}

-- ---- faults of meaning

-- the names of all materials, units and lines of rates
pub record Names : Type 0 where
  pub materials : List (List ℕ)
  pub units : List (List ℕ)
  pub rates : List (List ℕ)

abbrev pub names_all : List Placed → Names
names_all lines =
    record {
      materials = heads_at Materials lines;
      units = heads_at OperatingUnits lines;
      rates =
          heads_at Rates lines;
    }

-- Bounds are judged for each material or unit, with defaults filled in. The defaults alone are
-- never a fault.
abbrev pub is_material_turned : Settings → List (List ℕ × List ℕ) → Bool
is_material_turned s fields =
    int_lt (number_at (codes "flow_rate_upper_bound") fields s.flow_upper)
    (number_at (codes "flow_rate_lower_bound") fields s.flow_lower)

abbrev pub is_unit_turned : Settings → List (List ℕ × List ℕ) → Bool
is_unit_turned s fields =
    int_lt (number_at (codes "capacity_upper_bound") fields s.capacity_upper)
    (number_at (codes "capacity_lower_bound") fields s.capacity_lower)

-- the fault of a material of these fields
abbrev pub material_kind : Settings → List (List ℕ × List ℕ) → Option TextKind
material_kind s fields = if is_material_turned s fields then Some LowAboveHigh else None

-- the fault of a unit of this name and these fields
abbrev pub unit_kind : Settings → Names → List ℕ → List (List ℕ × List ℕ) → Option TextKind
unit_kind s names name fields =
    if is_unit_turned s fields then Some LowAboveHigh
    else if is_among names.rates name then None else Some NoRates

-- some term is of a material that has no line
abbrev pub has_unknown : List (List ℕ) → List Pair × List Pair → Bool
has_unknown materials sides =
    list_any (λ name. not (is_among materials name)) (names_of sides.0) || list_any
    (λ name. not (is_among materials name)) (names_of sides.1)

-- The fault of a line of rates of a unit of this name. A unit that has only a line of rates is a
-- unit of the problem.
abbrev pub rates_kind : Settings → Names → List ℕ → List Pair × List Pair → Option TextKind
rates_kind s names name sides =
    if not (is_among names.units name) && is_unit_turned s [] then Some LowAboveHigh
    else if has_unknown names.materials sides then Some UnknownMaterial else None

abbrev pub is_unit : Names → List ℕ → Bool
is_unit names item = is_among names.units item || is_among names.rates item

-- the fault of an exclusion of these members
abbrev pub exclusion_kind : Names → List (List ℕ) → Option TextKind
exclusion_kind names members =
    if list_any (λ item. not (is_unit names item)) members then Some UnknownUnit else None

abbrev pub entry_meaning : Settings → Names → Section → List ℕ → Option TextKind
entry_meaning s names Preamble text = None
entry_meaning s names MeasurementUnits text = None
entry_meaning s names Defaults text = None
entry_meaning s names Materials text = material_kind s (fields_at text)
entry_meaning s names OperatingUnits text = unit_kind s names (head_of text) (fields_at text)
entry_meaning s names Rates text = rates_kind s names (head_of text) (pairs_at text)
entry_meaning s names Exclusions text = exclusion_kind names (items_of text)

abbrev pub line_meaning : Settings → Names → Placed → Option TextKind
line_meaning s names line =
    if line.header then None else entry_meaning s names line.section line.text

-- the first of the lines that has a fault of meaning, with its kind
abbrev pub first_meaning : Settings → Names → List Placed → Option Fault
first_meaning s names [] = None
first_meaning s names (line ∷ lines) =
    fault_or line.number (line_meaning s names line) (first_meaning s names lines)

-- ---- texts

abbrev pub has_product : List Material → Bool
has_product = list_any (λ (m : Material). is_product m.kind)

-- The problem if it has a product. The fault that no material is one is reported at the line after
-- the last, which has the number, so after all other faults.
abbrev pub with_product : ℕ → Problem → Result Problem Fault
with_product number p = if has_product p.materials then Ok p else Err (number, NoProduct)

abbrev pub or_first : Option Fault → Result Problem Fault → Result Problem Fault
or_first (Some fault) rest = Err fault
or_first None rest = rest

-- the first fault of meaning of these lines, or the problem
abbrev pub meaning_at : List Placed → ℕ → Result Problem Fault
meaning_at lines number =
    or_first (first_meaning (settings_of lines) (names_all lines) lines)
    (with_product number (problem_from lines))

-- the problem that the lines stand for, or the first fault
abbrev pub read_lines : List (List ℕ) → Result Problem Fault
read_lines texts = or_first (form_fault texts) (meaning_at (meant_of texts) (length texts + 1))

-- the problem that a text stands for, or its first fault: what a reader of problem texts has to
-- answer
abbrev pub read_text : List ℕ → Result Problem Fault
read_text bytes = read_lines (lines_of bytes)
