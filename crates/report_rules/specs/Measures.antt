-- The units of measure that the text of a plant names, for the headings of its reports. A line
-- `key=value` names one if it is before the first section or in `measurement_units:`. Of each key
-- the first such line counts, if its value has 1 to 32 bytes, all printable; else there is none.
-- Only headings depend on them.
use Rattle.std.specs.Prelude.{ℕ, ◌++◌, ◌&&◌, nat_le, Bool, true, false, List, [], ◌∷◌, Option}
use Rattle.std.specs.Prelude.{Some, None, length, drop, codes, if◌then◌else◌}
use Rattle.std.specs.List.{list_all}
use Rattle.std.specs.Str.{bytes_eq}
use Rattle.rank_rules.specs.text_rules.declared.Section.{Section}
use Rattle.rank_rules.specs.text_rules.declared.Section.TheVariants.{Preamble, MeasurementUnits}
use Rattle.rank_rules.specs.text_rules.Line.{lines_of, section_after}
use Rattle.rank_rules.specs.text_rules.Field.{key_of, value_of}

-- those of money, of what flows, and of time
pub record Measures : Type 0 where
  pub money : Option (List ℕ)
  pub mass : Option (List ℕ)
  pub time : Option (List ℕ)

-- ---- the lines

abbrev pub is_printable : ℕ → Bool
is_printable c = nat_le 32 c && nat_le c 126

abbrev pub is_measure : List ℕ → Bool
is_measure value =
    nat_le 1 (length value) && nat_le (length value) 32 && list_all is_printable value

-- a value as a unit of measure, if it is one
abbrev pub measure_from : List ℕ → Option (List ℕ)
measure_from value = if is_measure value then Some value else None

-- the sections whose lines name them
abbrev pub names_measures : Section → Bool
names_measures Preamble = true
names_measures MeasurementUnits = true
names_measures section = false

-- whether a line of the section names that of the key
abbrev pub has_measure : List ℕ → Section → List ℕ → Bool
has_measure key section line = names_measures section && bytes_eq (key_of line) key

-- what the first such line names, of lines that come after those of a section
abbrev pub measure_among : List ℕ → Section → List (List ℕ) → Option (List ℕ)
measure_among key section [] = None
measure_among key section (line ∷ lines) =
    if has_measure key (section_after section line) line then measure_from (value_of line)
    else measure_among key (section_after section line) lines

-- the first line is the type of the file
abbrev pub measure_of : List ℕ → List ℕ → Option (List ℕ)
measure_of key bytes = measure_among key Preamble (drop 1 (lines_of bytes))

abbrev pub measures_of : List ℕ → Measures
measures_of bytes = record {
  money = measure_of (codes "money_unit") bytes;
  mass = measure_of (codes "mass_unit") bytes;
  time = measure_of (codes "time_unit") bytes;
}

-- ---- headings

-- words with a unit of measure after them, if there is one
abbrev pub with_measure : Option (List ℕ) → List ℕ → List ℕ
with_measure None words = words
with_measure (Some measure) words = words ++ (codes " [" ++ (measure ++ codes "]"))

-- that of a price: money, for one of what flows if there is a unit for it
abbrev pub for_one : List ℕ → Option (List ℕ) → List ℕ
for_one money None = money
for_one money (Some mass) = money ++ (codes "/" ++ mass)

abbrev pub price_measure : Option (List ℕ) → Option (List ℕ) → Option (List ℕ)
price_measure None mass = None
price_measure (Some money) mass = Some (for_one money mass)

-- the time that costs and flows are for
abbrev pub time_words : Option (List ℕ) → List ℕ
time_words None = codes "one year"
time_words (Some time) = codes "1 " ++ time
