-- The place of a name in a problem. Places count from 0 in file order; a name that is not there has
-- the count of items as its place.
use Rattle.std.specs.Prelude.{ℕ, Bool, not, List, map, length}
use Rattle.std.specs.List.{list_any, position_or_len}
use Rattle.std.specs.Str.{bytes_eq}
use Rattle.number_sets.specs.Sets.{has, listed}
use Rattle.text_rules.specs.problem_rules.Problem.{Problem, Term, material_names, unit_names}
use Rattle.text_rules.specs.problem_rules.Problem.{exclusion_names}
use Rattle.text_rules.specs.problem_rules.Problem.{material_at, unit_at}
use Rattle.text_rules.specs.problem_rules.Names.{is_among}
use Rattle.edit_rules.specs.Edit.{NamedTerm}

abbrev pub place_of : List (List ℕ) → List ℕ → ℕ
place_of names name = position_or_len (λ word. bytes_eq word name) names

abbrev pub material_place : Problem → List ℕ → ℕ
material_place p name = place_of (material_names p.materials) name

abbrev pub unit_place : Problem → List ℕ → ℕ
unit_place p name = place_of (unit_names p.units) name

abbrev pub exclusion_place : Problem → List ℕ → ℕ
exclusion_place p name = place_of (exclusion_names p.exclusions) name

abbrev pub has_material : Problem → List ℕ → Bool
has_material p name = is_among (material_names p.materials) name

abbrev pub has_unit : Problem → List ℕ → Bool
has_unit p name = is_among (unit_names p.units) name

abbrev pub has_exclusion : Problem → List ℕ → Bool
has_exclusion p name = is_among (exclusion_names p.exclusions) name

-- terms with their materials by number, and by name
abbrev pub numbered_terms : Problem → List NamedTerm → List Term
numbered_terms p terms =
    map (λ (t : NamedTerm). record { material = material_place p t.name; rate = t.rate }) terms

abbrev pub named_terms : Problem → List Term → List NamedTerm
named_terms p terms =
    map (λ (t : Term). record { name = (material_at p t.material).name; rate = t.rate }) terms

-- a term whose material is not in the problem, and a name that no unit has
abbrev pub lacks_material : Problem → List NamedTerm → Bool
lacks_material p terms = list_any (λ (t : NamedTerm). not (has_material p t.name)) terms

abbrev pub lacks_unit : Problem → List (List ℕ) → Bool
lacks_unit p names = list_any (λ name. not (has_unit p name)) names

-- the numbers of the units of these names, rising; and the names of units by number
abbrev pub members : Problem → List (List ℕ) → List ℕ
members p names = listed (length p.units) (has (map (unit_place p) names))

abbrev pub member_names : Problem → List ℕ → List (List ℕ)
member_names p units = map (λ u. (unit_at p u).name) units
