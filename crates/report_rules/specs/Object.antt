-- A table of ranges as the lines of one JSON object, with a line for each row.
use Rattle.std.specs.Prelude.{◌||◌, not, ℕ, ℤ, Bool, true, false, List, [], ◌∷◌, ◌++◌, map, codes}
use Rattle.std.specs.Prelude.{if◌then◌else◌}
use Rattle.rank_rules.specs.problem_rules.Problem.{Problem, material_at, unit_at}
use Rattle.rank_rules.specs.flow_rules.Net.{million}
use Rattle.report_rules.specs.Amounts.{quotient}
use Rattle.report_rules.specs.declared.spot.Spot.{Spot}
use Rattle.report_rules.specs.declared.spot.Spot.TheVariants.{Price, Fix, Proportional}
use Rattle.report_rules.specs.Json.{null, truth, quoted, member, object, with_comma, comma_lines}
use Rattle.report_rules.specs.Value.{number_json}
use Rattle.report_rules.specs.Facts.{text_member}
use Rattle.report_rules.specs.declared.end.End.{End}
use Rattle.report_rules.specs.declared.end.End.TheVariants.{Value, Limit, Unknown}
use Rattle.report_rules.specs.declared.row.Row.{Row}

-- ---- a row

abbrev pub kind_word : Spot → List ℕ
kind_word (Price x) = codes "price"
kind_word (Fix u) = codes "fix"
kind_word (Proportional u) = codes "proportional"

abbrev pub name_of : Problem → Spot → List ℕ
name_of p (Price x) = (material_at p x).name
name_of p (Fix u) = (unit_at p u).name
name_of p (Proportional u) = (unit_at p u).name

abbrev pub value_json : ℤ → List ℕ
value_json value = number_json (quotient value million)

-- null if it is no value
abbrev pub end_json : End → List ℕ
end_json (Value value) = value_json value
end_json Limit = null
end_json Unknown = null

abbrev pub is_limit : End → Bool
is_limit (Value value) = false
is_limit Limit = true
is_limit Unknown = false

abbrev pub is_unknown : End → Bool
is_unknown (Value value) = false
is_unknown Limit = false
is_unknown Unknown = true

-- the search for a range finished if both of its ends are known
abbrev pub is_finished : Row → Bool
is_finished row = not (is_unknown row.from || is_unknown row.to)

abbrev pub row_json : Problem → Row → List ℕ
row_json p row = object (
    text_member (codes "kind") (kind_word row.spot)
    ∷ text_member (codes "name") (name_of p row.spot)
    ∷ member (codes "from") (end_json row.from)
    ∷ member (codes "now") (value_json row.value)
    ∷ member (codes "to") (end_json row.to)
    ∷ member (codes "from_limit") (truth (is_limit row.from))
    ∷ member (codes "to_limit") (truth (is_limit row.to))
    ∷ member (codes "finished") (truth (is_finished row)) ∷ [])

-- ---- all

abbrev pub table_lines : Problem → List Row → List (List ℕ)
table_lines p rows =
    (123 ∷ []) ∷ with_comma (text_member (codes "claim") (codes "ranges"))
    ∷ (quoted (codes "ranges") ++ 58 ∷ 32 ∷ 91 ∷ [])
    ∷ (comma_lines (map (row_json p) rows) ++ (93 ∷ []) ∷ (125 ∷ []) ∷ [])
