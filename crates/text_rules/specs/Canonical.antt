-- The canonical text of a problem: one spelling for each problem, which reads back as that problem.
-- After the first line its sections follow in a fixed order, each after an empty line and its
-- header. Every key is printed, with two exceptions: an investment cost is there exactly if it is
-- not 0, and the payout period exactly if it is not 1.
use Rattle.std.specs.Prelude.{◌==◌, ℕ, Bool, List, [], ◌∷◌, ◌++◌, map, flat_map, codes, ℤ}
use Rattle.std.specs.Prelude.{unsigned_abs, decimal, slice_index_or, if◌then◌else◌}
use Rattle.text_rules.specs.Printed.{amount_bytes}
use Rattle.problem_rules.specs.Problem.{Kind, raw_material, intermediate, product, Material, Term}
use Rattle.problem_rules.specs.Problem.{OperatingUnit, Problem, material_names, unit_names}
use Rattle.text_rules.specs.Fault.{file_type}

-- the pieces with the mark between each two
abbrev pub joined : {A : Type 0} → A → List (List A) → List A
joined mark [] = []
joined mark (piece ∷ []) = piece
joined mark (piece ∷ next ∷ pieces) = piece ++ mark ∷ joined mark (next ∷ pieces)

-- the items, with a space before each but the first
abbrev pub spaced : List (List ℕ) → List (List ℕ)
spaced [] = []
spaced (item ∷ items) = item ∷ map (λ next. 32 ∷ next) items

-- a name, a colon and a space before what follows
abbrev pub named : List ℕ → List ℕ → List ℕ
named name text = name ++ 58 ∷ 32 ∷ text

-- a name and its items, separated by a comma and a space
abbrev pub item_line : List ℕ → List (List ℕ) → List ℕ
item_line name items = named name (joined 44 (spaced items))

abbrev pub field : List ℕ → List ℕ → List ℕ
field key value = key ++ 61 ∷ value

abbrev pub kind_word : Kind → List ℕ
kind_word raw_material = codes "raw_material"
kind_word intermediate = codes "intermediate"
kind_word product = codes "product"

abbrev pub material_items : Material → List (List ℕ)
material_items m = kind_word m.kind ∷ field (codes "price") (amount_bytes m.price)
    ∷ field (codes "flow_rate_lower_bound") (amount_bytes m.lower)
    ∷ field (codes "flow_rate_upper_bound") (amount_bytes m.upper) ∷ []

abbrev pub is_zero : ℤ → Bool
is_zero z = unsigned_abs z == 0

-- a field if the value is not 0
abbrev pub field_unless_zero : List ℕ → ℤ → List (List ℕ)
field_unless_zero key z = if is_zero z then [] else field key (amount_bytes z) ∷ []

abbrev pub unit_items : OperatingUnit → List (List ℕ)
unit_items u = field (codes "capacity_lower_bound") (amount_bytes u.lower)
    ∷ field (codes "capacity_upper_bound") (amount_bytes u.upper)
    ∷ field (codes "fix_cost") (amount_bytes u.fix)
    ∷ field (codes "proportional_cost") (amount_bytes u.proportional)
    ∷ field_unless_zero (codes "investment_fix_cost") u.investment_fix
    ++ field_unless_zero (codes "investment_proportional_cost") u.investment_proportional

abbrev pub name_at : List (List ℕ) → ℕ → List ℕ
name_at names k = slice_index_or names k []

-- a rate of 1 is not printed
abbrev pub term_tokens : List (List ℕ) → Term → List (List ℕ)
term_tokens names term =
    if unsigned_abs term.rate == 1000000 then name_at names term.material
    ∷ [] else amount_bytes term.rate ∷ name_at names term.material ∷ []

abbrev pub side_tokens : List (List ℕ) → List Term → List (List ℕ)
side_tokens names terms = joined (codes "+") (map (term_tokens names) terms)

-- the tokens, separated by a space
abbrev pub token_text : List (List ℕ) → List ℕ
token_text tokens = joined 32 tokens

abbrev pub rates_tokens : List (List ℕ) → OperatingUnit → List (List ℕ)
rates_tokens names u = side_tokens names u.inputs ++ codes "=>" ∷ side_tokens names u.outputs

-- an empty line, the header, and the lines of a section
abbrev pub section_lines : List ℕ → List (List ℕ) → List (List ℕ)
section_lines header lines = [] ∷ (header ++ 58 ∷ []) ∷ lines

abbrev pub material_lines : Problem → List (List ℕ)
material_lines p = map (λ m. item_line m.name (material_items m)) p.materials

abbrev pub unit_lines : Problem → List (List ℕ)
unit_lines p = map (λ u. item_line u.name (unit_items u)) p.units

abbrev pub rates_lines : Problem → List (List ℕ)
rates_lines p =
    map (λ u. named u.name (token_text (rates_tokens (material_names p.materials) u))) p.units

abbrev pub exclusion_lines : Problem → List (List ℕ)
exclusion_lines p =
    map (λ e. item_line e.name (map (name_at (unit_names p.units)) e.units)) p.exclusions

abbrev pub payout_lines : ℤ → List (List ℕ)
payout_lines payout =
    if unsigned_abs payout == 1 then [] else section_lines (codes "defaults")
    (field (codes "payout_period") (decimal (unsigned_abs payout)) ∷ [])

-- the section of the exclusions, if there are any
abbrev pub exclusion_section : List (List ℕ) → List (List ℕ)
exclusion_section [] = []
exclusion_section (line ∷ lines) = section_lines (codes "mutual_exclusions") (line ∷ lines)

abbrev pub canonical_lines : Problem → List (List ℕ)
canonical_lines p = file_type ∷ (payout_lines p.payout
    ++ (section_lines (codes "materials") (material_lines p)
    ++ (section_lines (codes "operating_units") (unit_lines p)
    ++ (section_lines (codes "material_to_operating_unit_flow_rates") (rates_lines p)
    ++ exclusion_section (exclusion_lines p)))))

-- the canonical text of a problem, each line with its line feed
abbrev pub canonical : Problem → List ℕ
canonical p = flat_map (λ line. line ++ 10 ∷ []) (canonical_lines p)
