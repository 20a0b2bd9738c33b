-- The lines of a text, each with its number and its section. Lines count from 1, and empty ones and
-- remarks count too.
use Rattle.std.specs.Prelude.{◌==◌, ◌&&◌, ◌+◌, ◌-◌, ℕ, Bool, true, false, List, [], ◌∷◌, Option}
use Rattle.std.specs.Prelude.{Some, None, length, take, drop, map, codes, not, nat_eq, slice_index}
use Rattle.std.specs.Prelude.{slice_index_or, unwrap_or, filter, if◌then◌else◌}
use Rattle.std.specs.List.{list_any, before_first, after_first, slice_split, starts_with}
use Rattle.std.specs.Str.{bytes_eq, byte}
use Rattle.text_rules.specs.declared.Section.{Section}
use Rattle.text_rules.specs.declared.Section.TheVariants.{Preamble, MeasurementUnits, Defaults}
use Rattle.text_rules.specs.declared.Section.TheVariants.{Materials, OperatingUnits, Rates}
use Rattle.text_rules.specs.declared.Section.TheVariants.{Exclusions}
use Rattle.problem_rules.specs.Names.{is_name}
use Rattle.text_rules.specs.Blanks.{trim_front, trim}

-- a byte order mark is dropped, once, at the very start
abbrev pub byte_order_mark : List ℕ
byte_order_mark = 239 ∷ 187 ∷ 191 ∷ []

abbrev pub without_mark : List ℕ → List ℕ
without_mark bytes = if starts_with nat_eq bytes byte_order_mark then drop 3 bytes else bytes

-- one carriage return is dropped at the very end of a line, before blanks are dropped: so one that
-- blanks follow stays
abbrev pub without_return : List ℕ → List ℕ
without_return text =
    if slice_index text (length text - 1) == 13 then take (length text - 1) text else text

-- The last line may lack its line feed. The empty text after a last line feed is no line; a
-- carriage return alone is one.
abbrev pub without_empty_last : List (List ℕ) → List (List ℕ)
without_empty_last parts =
    if length (slice_index_or parts (length parts - 1) (0 ∷ [])) == 0 then take (length parts - 1)
    parts else parts

-- A remark is a line whose first byte other than a blank is a number sign. It becomes an empty
-- line, so that it is skipped and counted, and no first line is a remark.
abbrev pub is_remark : List ℕ → Bool
is_remark line = slice_index (trim_front line) 0 == byte "#"

abbrev pub without_remark : List ℕ → List ℕ
without_remark line = if is_remark line then [] else line

-- the lines, without the carriage return at their end and without blanks at both ends; remarks
-- become empty
abbrev pub lines_of : List ℕ → List (List ℕ)
lines_of bytes =
    map (λ part. trim (without_remark (without_return part)))
    (without_empty_last (slice_split (λ c. c == 10) (without_mark bytes)))

abbrev pub is_section : Section → Section → Bool
is_section Preamble Preamble = true
is_section MeasurementUnits MeasurementUnits = true
is_section Defaults Defaults = true
is_section Materials Materials = true
is_section OperatingUnits OperatingUnits = true
is_section Rates Rates = true
is_section Exclusions Exclusions = true
is_section section other = false

-- the section of a header's name
abbrev pub section_named : List ℕ → Option Section
section_named name =
    if bytes_eq name (codes "measurement_units") then Some MeasurementUnits
    else if bytes_eq name (codes "defaults") then Some Defaults
    else if bytes_eq name (codes "materials") then Some Materials
    else if bytes_eq name (codes "operating_units") then Some OperatingUnits
    else if bytes_eq name (codes "material_to_operating_unit_flow_rates") then Some Rates
    else if bytes_eq name (codes "mutual_exclusions") then Some Exclusions
    else None

abbrev pub is_colon : ℕ → Bool
is_colon c = c == byte ":"

-- the text before the first colon, and the text after it, without blanks
abbrev pub head_of : List ℕ → List ℕ
head_of text = trim (before_first is_colon text)

abbrev pub tail_of : List ℕ → List ℕ
tail_of text = trim (after_first is_colon text)

-- One name and a colon with nothing after it is a header, in every section. If the text before the
-- colon is no name, the line is one of its section. Blanks around the colon are dropped:
-- `materials :` is the header `materials:`.
abbrev pub is_header : List ℕ → Bool
is_header text = list_any is_colon text && is_name (head_of text) && length (tail_of text) == 0

-- a line of the text, with the section that it is in or begins
pub record Placed : Type 0 where
  pub number : ℕ
  pub section : Section
  pub header : Bool
  pub text : List ℕ

-- The section after a line. After an unknown header the section stays the same. This does not
-- matter, as such a header is a fault, and no line after the first fault is reported.
abbrev pub section_after : Section → List ℕ → Section
section_after section text =
    if is_header text then unwrap_or (section_named (head_of text)) section else section

abbrev pub placed_from : ℕ → Section → List (List ℕ) → List Placed
placed_from number section [] = []
placed_from number section (text ∷ texts) =
    record {
      number = number;
      section = section_after section text;
      header = is_header text;
      text =
          text;
    }
    ∷ placed_from (number + 1) (section_after section text) texts

-- the lines that are not empty
abbrev pub standing : List Placed → List Placed
standing = filter (λ line. not (length line.text == 0))

-- the lines after the first that are not empty: the first line is judged separately
abbrev pub body_of : List (List ℕ) → List Placed
body_of [] = []
body_of (first ∷ texts) = standing (placed_from 2 Preamble texts)

-- a line of the section that is no header
abbrev pub is_at : Section → Placed → Bool
is_at section line = is_section section line.section && not line.header

abbrev pub lines_at : Section → List Placed → List Placed
lines_at section = filter (is_at section)

-- the names of the lines of a section
abbrev pub heads_at : Section → List Placed → List (List ℕ)
heads_at section lines = map (λ (line : Placed). head_of line.text) (lines_at section lines)

-- the sections whose lines have a meaning
abbrev pub is_meant : Section → Bool
is_meant Preamble = false
is_meant MeasurementUnits = false
is_meant Defaults = true
is_meant Materials = true
is_meant OperatingUnits = true
is_meant Rates = true
is_meant Exclusions = true

-- a line that has a meaning
abbrev pub matters : Placed → Bool
matters line = not line.header && is_meant line.section

-- the lines of a text that have a meaning
abbrev pub meant_of : List (List ℕ) → List Placed
meant_of texts = filter matters (body_of texts)
