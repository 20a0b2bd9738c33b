-- The pieces of which the canonical text consists.
use Rattle.std.specs.Prelude.{◌≡◌, ◌<◌, ℕ, false, List, [], ◌∷◌, ◌++◌, flat_map, map, length, codes}
use Rattle.std.specs.Prelude.{ℤ, unsigned_abs, ◌==◌, if◌then◌else◌}
use Rattle.text_rules.specs.problem_rules.Problem.{Material, Term, OperatingUnit, Exclusion}
use Rattle.text_rules.specs.problem_rules.Validity.{names_no_material, is_empty}
use Rattle.text_rules.specs.Printed.{amount_bytes}
use Rattle.text_rules.specs.Canonical.{field, field_unless_zero, name_at, item_line, material_items}
use Rattle.text_rules.specs.Canonical.{unit_items, named, token_text, rates_tokens}

-- lines as they are written, each with its line feed
abbrev pub printed : List (List ℕ) → List ℕ
printed lines = flat_map (λ line. line ++ 10 ∷ []) lines

-- an item after the first of a line: a comma, a space and the item
abbrev pub further : List ℕ → List ℕ
further item = 44 ∷ 32 ∷ item

abbrev pub further_items : List (List ℕ) → List ℕ
further_items [] = []
further_items (item ∷ items) = further item ++ further_items items

-- a rate of 1 is not printed
abbrev pub rate_text : ℤ → List ℕ
rate_text rate = if unsigned_abs rate == 1000000 then [] else amount_bytes rate ++ 32 ∷ []

abbrev pub term_text : List (List ℕ) → Term → List ℕ
term_text names t = rate_text t.rate ++ name_at names t.material

-- the terms after the first of a side, each after a `+` between spaces
abbrev pub further_terms : List (List ℕ) → List Term → List ℕ
further_terms names [] = []
further_terms names (t ∷ ts) = 32 ∷ 43 ∷ 32 ∷ term_text names t ++ further_terms names ts

-- the items of a material after its kind, and those of a unit after its lower bound
abbrev pub material_amounts : Material → List (List ℕ)
material_amounts m = field (codes "price") (amount_bytes m.price)
    ∷ field (codes "flow_rate_lower_bound") (amount_bytes m.lower)
    ∷ field (codes "flow_rate_upper_bound") (amount_bytes m.upper) ∷ []

abbrev pub unit_amounts : OperatingUnit → List (List ℕ)
unit_amounts u = field (codes "capacity_upper_bound") (amount_bytes u.upper)
    ∷ field (codes "fix_cost") (amount_bytes u.fix)
    ∷ field (codes "proportional_cost") (amount_bytes u.proportional) ∷ []

abbrev pub unit_investment_fix : OperatingUnit → List (List ℕ)
unit_investment_fix u = field_unless_zero (codes "investment_fix_cost") u.investment_fix

abbrev pub unit_investment_proportional : OperatingUnit → List (List ℕ)
unit_investment_proportional u =
    field_unless_zero (codes "investment_proportional_cost") u.investment_proportional

-- both sides have terms, of known materials
pub record IsPrintable (materials : ℕ) (u : OperatingUnit) : Type 0 where
  pub some_inputs : is_empty u.inputs ≡ false
  pub some_outputs : is_empty u.outputs ≡ false
  pub inputs_known : names_no_material materials u.inputs ≡ false
  pub outputs_known : names_no_material materials u.outputs ≡ false

abbrev pub AreKnown : ℕ → List ℕ → Type 0
AreKnown units [] = Unit {0}
AreKnown units (u ∷ us) = (u < units) × AreKnown units us

-- at least one member, and each is one of so many units
pub record HasKnownMembers (units : ℕ) (e : Exclusion) : Type 0 where
  pub some : 0 < length e.units
  pub known : AreKnown units e.units

-- the lines of the sections
abbrev pub material_line : Material → List ℕ
material_line m = item_line m.name (material_items m)

abbrev pub unit_line : OperatingUnit → List ℕ
unit_line u = item_line u.name (unit_items u)

abbrev pub rates_line : List (List ℕ) → OperatingUnit → List ℕ
rates_line names u = named u.name (token_text (rates_tokens names u))

abbrev pub exclusion_line : List (List ℕ) → Exclusion → List ℕ
exclusion_line names e = item_line e.name (map (name_at names) e.units)
