-- The faults of form of a text. The kind of a line is judged by its text and by what was seen on
-- the lines before it; the first line that has one counts. Of several kinds at a line the first in
-- the order of `TextKind` is reported, so the tests of a line are in that order.
use Rattle.std.specs.Prelude.{◌==◌, ◌%◌, ◌&&◌, ◌||◌, ℕ, ℤ, Bool, true, false, List, [], ◌∷◌, ◌++◌}
use Rattle.std.specs.Prelude.{length, map, filter, find, codes, not, nat_le, nat_lt, Option, Some}
use Rattle.std.specs.Prelude.{None, is_none, Result, Err, pos, int_lt, unsigned_abs, if◌then◌else◌}
use Rattle.std.specs.List.{list_any}
use Rattle.std.specs.Str.{bytes_eq}
use Rattle.std.specs.Result.{result_unwrap_or}
use Rattle.problem_rules.specs.Names.{is_name, is_among, has_double}
use Rattle.text_rules.specs.declared.TextKind.{TextKind}
use Rattle.text_rules.specs.declared.TextKind.TheVariants.{FileType, UnknownSection, DoubleSection}
use Rattle.text_rules.specs.declared.TextKind.TheVariants.{BadLine, BadName, UnknownKey, DoubleKey}
use Rattle.text_rules.specs.declared.TextKind.TheVariants.{BadNumber, TooFine, TooLarge, Negative}
use Rattle.text_rules.specs.declared.TextKind.TheVariants.{UnknownKind, ZeroRate, DoubleTerm}
use Rattle.text_rules.specs.declared.TextKind.TheVariants.{BothSides, EmptySide, DoubleMaterial}
use Rattle.text_rules.specs.declared.TextKind.TheVariants.{DoubleUnit, DoubleRates, TooMany}
use Rattle.text_rules.specs.declared.TextKind.TheVariants.{DoubleExclusion, DoubleMember}
use Rattle.text_rules.specs.declared.TextKind.TheVariants.{FewMembers, BadPayout}
use Rattle.text_rules.specs.Amount.{amount_of}
use Rattle.text_rules.specs.declared.Section.{Section}
use Rattle.text_rules.specs.declared.Section.TheVariants.{Preamble, MeasurementUnits, Defaults}
use Rattle.text_rules.specs.declared.Section.TheVariants.{Materials, OperatingUnits, Rates}
use Rattle.text_rules.specs.declared.Section.TheVariants.{Exclusions}
use Rattle.text_rules.specs.Line.{Placed, is_at, section_named, is_colon, head_of, body_of}
use Rattle.text_rules.specs.Field.{has_key, key_of, value_of, items_of, sides_of, keyed, is_keyed}
use Rattle.text_rules.specs.Field.{kind_words, material_keys, unit_keys, default_keys}
use Rattle.text_rules.specs.Field.{material_type, payout_period, for_material, for_unit}
use Rattle.text_rules.specs.Term.{Pair, sides_read}

-- ---- numbers

-- whether the number has a fault
abbrev pub is_bad : Result ℤ TextKind → Bool
is_bad (Err BadNumber) = true
is_bad amount = false

abbrev pub is_too_fine : Result ℤ TextKind → Bool
is_too_fine (Err TooFine) = true
is_too_fine amount = false

abbrev pub is_too_large : Result ℤ TextKind → Bool
is_too_large (Err TooLarge) = true
is_too_large amount = false

abbrev pub millionths : List ℕ → ℤ
millionths text = result_unwrap_or (amount_of text) (pos 0)

-- the keys whose values may be below 0
abbrev pub may_be_negative : List ℕ → Bool
may_be_negative =
    is_among (codes "price" ∷ codes "proportional_cost" ∷ codes "investment_proportional_cost"
    ∷ for_material (codes "price") ∷ for_unit (codes "proportional_cost")
    ∷ for_unit (codes "investment_proportional_cost") ∷ payout_period ∷ [])

-- Whether a number that was read so has this kind of fault, whatever its key. Numbers are judged
-- one kind after the other. One that is no number, too fine or too large is reported as that, so it
-- counts as 0 for the kinds that follow. `-0` is not below 0, and as a rate it is 0.
abbrev pub number_stands : TextKind → Result ℤ TextKind → Bool
number_stands BadNumber amount = is_bad amount
number_stands TooFine amount = is_too_fine amount
number_stands TooLarge amount = is_too_large amount
number_stands Negative amount = int_lt (result_unwrap_or amount (pos 0)) (pos 0)
number_stands ZeroRate amount =
    not (int_lt (result_unwrap_or amount (pos 0)) (pos 0)) && not
    (int_lt (pos 0) (result_unwrap_or amount (pos 0)))
number_stands kind amount = false

-- the same of the value of a key: some keys may have values below 0
abbrev pub value_stands : TextKind → List ℕ → Result ℤ TextKind → Bool
value_stands Negative key amount = number_stands Negative amount && not (may_be_negative key)
value_stands kind key amount = number_stands kind amount

-- the kinds of fault that any number may have
abbrev pub number_kinds : List TextKind
number_kinds = BadNumber ∷ TooFine ∷ TooLarge ∷ Negative ∷ []

-- the first kind of two
abbrev pub or_kind : Option TextKind → Option TextKind → Option TextKind
or_kind (Some kind) rest = Some kind
or_kind None rest = rest

-- ---- defaults

-- a whole number of years from 1 to 100
abbrev pub is_payout : ℤ → Bool
is_payout z = int_lt (pos 0) z && unsigned_abs z % 1000000 == 0 && nat_le (unsigned_abs z) 100000000

-- whether a default has a number as its value, and that number has this kind of fault
abbrev pub default_number_stands : TextKind → List ℕ → Bool
default_number_stands kind text =
    not (bytes_eq (key_of text) material_type) && value_stands kind (key_of text)
    (amount_of (value_of text))

-- The kinds that follow those of its number. A payout period below 1 is a bad payout period, not a
-- negative number.
abbrev pub default_rest : List ℕ → Option TextKind
default_rest text =
    if bytes_eq (key_of text) material_type && not (is_among kind_words (value_of text)) then Some
    UnknownKind
    else if bytes_eq (key_of text) payout_period && not (is_payout (millionths (value_of text)))
    then Some BadPayout
    else None

-- the fault of a line of defaults, given the keys before it
abbrev pub default_fault : List (List ℕ) → List ℕ → Option TextKind
default_fault keys text =
    if not (has_key text) then Some BadLine
    else if not (is_among default_keys (key_of text)) then Some UnknownKey
    else if is_among keys (key_of text) then Some DoubleKey
    else or_kind (find (λ kind. default_number_stands kind text) number_kinds) (default_rest text)

-- ---- materials and operating units

-- the key of an item, and its value
abbrev pub field_key : List ℕ → List ℕ
field_key item = (keyed item).0

abbrev pub field_value : List ℕ → List ℕ
field_value item = (keyed item).1

-- an item whose value is a number
abbrev pub has_number : List ℕ → Bool
has_number item = is_keyed item && not (bytes_eq (field_key item) material_type)

abbrev pub item_stands : TextKind → List ℕ → Bool
item_stands kind item =
    has_number item && value_stands kind (field_key item) (amount_of (field_value item))

-- an item with a key that is not among these; the key `material_type` is for defaults alone
abbrev pub has_unknown_key : List (List ℕ) → List ℕ → Bool
has_unknown_key keys item = has_key item && not (is_among keys (key_of item))

-- the keys of the items that have one
abbrev pub keys_in : List (List ℕ) → List (List ℕ)
keys_in items = map field_key (filter is_keyed items)

-- the first fault of the name or of the fields of a line of items, which may have these keys
abbrev pub fields_fault : List (List ℕ) → List ℕ → List (List ℕ) → Option TextKind
fields_fault keys name items =
    if not (is_name name) then Some BadName
    else if list_any (has_unknown_key keys) items then Some UnknownKey
    else if has_double (keys_in items) then Some DoubleKey
    else find (λ kind. list_any (item_stands kind) items) number_kinds

abbrev pub is_unknown_kind : List ℕ → Bool
is_unknown_kind item = not (has_key item) && not (is_among kind_words item)

-- the fault of a material, after those of its fields
abbrev pub material_rest : List (List ℕ) → List ℕ → List (List ℕ) → Option TextKind
material_rest names name items =
    if list_any is_unknown_kind items then Some UnknownKind
    else if is_among names name then Some DoubleMaterial
    else if nat_le 256 (length names) then Some TooMany
    else None

-- The fault of a line of materials, given the names of the materials before it. An item of a
-- material may not be empty. A line without a colon is all name, so an item in it makes a bad name.
abbrev pub material_fault : List (List ℕ) → List ℕ → List (List ℕ) → Option TextKind
material_fault names name items =
    if list_any (λ item. length item == 0) items then Some BadLine
    else or_kind (fields_fault material_keys name items) (material_rest names name items)

-- a new name of a unit when there are as many as there may be, counted in both sections together
abbrev pub is_beyond : List (List ℕ) → List ℕ → Bool
is_beyond seen name = not (is_among seen name) && nat_le 128 (length seen)

-- the fault of a unit, after those of its fields
abbrev pub unit_rest : List (List ℕ) → List (List ℕ) → List ℕ → Option TextKind
unit_rest names seen name =
    if is_among names name then Some DoubleUnit
    else if is_beyond seen name then Some TooMany
    else None

-- The fault of a line of operating units, given the names of such lines before it and all names of
-- units that were seen. An item of a unit needs its `=`: a kind word has none.
abbrev pub unit_fault : List (List ℕ) → List (List ℕ) → List ℕ → List (List ℕ) → Option TextKind
unit_fault names seen name items =
    if list_any (λ item. not (has_key item)) items then Some BadLine
    else or_kind (fields_fault unit_keys name items) (unit_rest names seen name)

-- ---- rates

-- the materials of the terms
abbrev pub names_of : List Pair → List (List ℕ)
names_of = map (λ term. term.1)

-- whether a rate has this kind of fault
abbrev pub rate_stands : TextKind → Pair → Bool
rate_stands kind term = number_stands kind (amount_of term.0)

abbrev pub rate_kinds : List TextKind
rate_kinds = BadNumber ∷ TooFine ∷ TooLarge ∷ Negative ∷ ZeroRate ∷ []

-- the first kind of the name or of a term
abbrev pub term_fault : List ℕ → List Pair → List Pair → Option TextKind
term_fault name left right =
    if not (is_name name) || list_any (λ term. not (is_name term.1)) (left ++ right) then Some
    BadName
    else find (λ kind. list_any (rate_stands kind) (left ++ right)) rate_kinds

-- the fault of a material that is there twice
abbrev pub doubled : List Pair → List Pair → Option TextKind
doubled left right =
    if has_double (names_of left) || has_double (names_of right) then Some DoubleTerm
    else if list_any (is_among (names_of right)) (names_of left) then Some BothSides else None

-- the fault of the whole line
abbrev pub whole_fault : List (List ℕ) → List (List ℕ) → List ℕ → List Pair → List Pair
    → Option TextKind
whole_fault names seen name left right =
    if length left == 0 || length right == 0 then Some EmptySide
    else if is_among names name then Some DoubleRates
    else if is_beyond seen name then Some TooMany
    else None

-- The fault of a line of rates, given the names of such lines before it and all names of units that
-- were seen. If the line has two sides of terms, it is their first kind. A side without tokens is
-- not a bad line: an earlier kind on the other side is reported first.
abbrev pub sides_fault : List (List ℕ) → List (List ℕ) → List ℕ → Option (List Pair × List Pair)
    → Option TextKind
sides_fault names seen name None = Some BadLine
sides_fault names seen name (Some sides) =
    or_kind (term_fault name sides.0 sides.1)
    (or_kind (doubled sides.0 sides.1) (whole_fault names seen name sides.0 sides.1))

-- ---- exclusions

-- The fault of a line of exclusions, given the names of the exclusions before it. Lines are
-- counted, not their names: a 65th is one too many even if it repeats a name. A doubled member is
-- judged by its text, whether the unit is known or not.
abbrev pub exclusion_fault : List (List ℕ) → List ℕ → List ℕ → List (List ℕ) → Option TextKind
exclusion_fault names text name items =
    if not (list_any is_colon text) || list_any (λ item. length item == 0) items then Some BadLine
    else if not (is_name name) || list_any (λ item. not (is_name item)) items then Some BadName
    else if nat_le 64 (length names) then Some TooMany
    else if is_among names name then Some DoubleExclusion
    else if has_double items then Some DoubleMember
    else if nat_lt (length items) 2 then Some FewMembers
    else None

-- ---- lines

-- What was seen on the lines before a line: the names of headers, the keys of defaults and the
-- names of entries; `unit_names` has each name of a unit once.
pub record Seen : Type 0 where
  pub headers : List (List ℕ)
  pub keys : List (List ℕ)
  pub materials : List (List ℕ)
  pub units : List (List ℕ)
  pub rates : List (List ℕ)
  pub exclusions : List (List ℕ)
  pub unit_names : List (List ℕ)

abbrev pub seen_none : Seen
seen_none =
    record {
      headers = [];
      keys = [];
      materials = [];
      units = [];
      rates = [];
      exclusions =
          [];
      unit_names = [];
    }

-- the names, with one more at the end if there is one
abbrev pub more_if : Bool → List (List ℕ) → List ℕ → List (List ℕ)
more_if b names name = if b then names ++ name ∷ [] else names

-- the list with the name, which is added only if it is not there
abbrev pub with_name : List (List ℕ) → List ℕ → List (List ℕ)
with_name names name = if is_among names name then names else names ++ name ∷ []

-- what was seen after the line too
abbrev pub seen_after : Seen → Placed → Seen
seen_after seen line =
    if line.header then record seen { headers = seen.headers ++ head_of line.text ∷ [] }
    else record {
      headers = seen.headers;
      keys = more_if (is_at Defaults line) seen.keys (key_of line.text);
      materials = more_if (is_at Materials line) seen.materials (head_of line.text);
      units = more_if (is_at OperatingUnits line) seen.units (head_of line.text);
      rates = more_if (is_at Rates line) seen.rates (head_of line.text);
      exclusions = more_if (is_at Exclusions line) seen.exclusions (head_of line.text);
      unit_names =
          if is_at OperatingUnits line || is_at Rates line then with_name seen.unit_names
          (head_of line.text) else seen.unit_names;
    }

-- the fault of a header of this name
abbrev pub header_fault : List (List ℕ) → List ℕ → Option TextKind
header_fault headers name =
    if is_none (section_named name) then Some UnknownSection else if is_among headers name then Some
    DoubleSection else None

-- the fault of a line that is skipped: it needs an `=`
abbrev pub skipped_fault : List ℕ → Option TextKind
skipped_fault text = if has_key text then None else Some BadLine

-- the fault of a line of a section
abbrev pub entry_fault : Seen → Section → List ℕ → Option TextKind
entry_fault seen Preamble text = skipped_fault text
entry_fault seen MeasurementUnits text = skipped_fault text
entry_fault seen Defaults text = default_fault seen.keys text
entry_fault seen Materials text = material_fault seen.materials (head_of text) (items_of text)
entry_fault seen OperatingUnits text =
    unit_fault seen.units seen.unit_names (head_of text) (items_of text)
entry_fault seen Rates text =
    sides_fault seen.rates seen.unit_names (head_of text) (sides_read (sides_of text))
entry_fault seen Exclusions text =
    exclusion_fault seen.exclusions text (head_of text) (items_of text)

-- the fault of any line
abbrev pub line_fault : Seen → Placed → Option TextKind
line_fault seen line =
    if line.header then header_fault seen.headers (head_of line.text) else entry_fault seen
    line.section line.text

-- ---- texts

-- a line's number and a kind
abbrev pub Fault : Type 0
Fault = ℕ × TextKind

-- the kind at a line of this number, or else the rest
abbrev pub fault_or : ℕ → Option TextKind → Option Fault → Option Fault
fault_or number (Some kind) rest = Some (number, kind)
fault_or number None rest = rest

-- the first of the lines that has a fault, with its kind
abbrev pub first_fault : Seen → List Placed → Option Fault
first_fault seen [] = None
first_fault seen (line ∷ lines) =
    fault_or line.number (line_fault seen line) (first_fault (seen_after seen line) lines)

abbrev pub file_type : List ℕ
file_type = codes "file_type=PNS_problem_v1"

-- the first line is judged, not the first that is not empty
abbrev pub first_is_type : List (List ℕ) → Bool
first_is_type [] = false
first_is_type (first ∷ texts) = bytes_eq first file_type

-- the first fault of form
abbrev pub form_fault : List (List ℕ) → Option Fault
form_fault texts =
    if first_is_type texts then first_fault seen_none (body_of texts) else Some (1, FileType)
