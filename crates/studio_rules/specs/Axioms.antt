-- `axioms FILE UNITS`: whether the units are a solution structure, or else the first broken axiom
-- with its least place. A name that is no unit of the problem breaks S3 and is judged first.
use Rattle.std.specs.Prelude.{◌≡◌, ◌==◌, ◌++◌, ℕ, Bool, false, List, [], ◌∷◌, Option, Some, None}
use Rattle.std.specs.Prelude.{codes, find, is_none}
use Rattle.std.specs.List.{list_any, position}
use Rattle.std.specs.Str.{bytes_eq}
use Rattle.report_rules.specs.problem_rules.Problem.{Problem, unit_names, material_at, unit_at}
use Rattle.report_rules.specs.pns_rules.Shape.{shape_of}
use Rattle.report_rules.specs.pns_rules.Verdict.{Judges}
use Rattle.report_rules.specs.pns_rules.declared.verdict.Axiom.{Axiom}
use Rattle.report_rules.specs.pns_rules.declared.verdict.Axiom.TheVariants.{S1, S2, S3, S4, S5}
use Rattle.report_rules.specs.pns_rules.declared.verdict.Verdict.{Verdict}
use Rattle.report_rules.specs.pns_rules.declared.verdict.Verdict.TheVariants.{Meets, Breaks}
use Rattle.studio_rules.specs.declared.status.Status.{Status}
use Rattle.studio_rules.specs.declared.status.Status.TheVariants.{Done, Refused}

-- the number of the unit of this name
abbrev pub number_of : Problem → List ℕ → Option ℕ
number_of p name = position (λ word. bytes_eq word name) (unit_names p.units)

abbrev pub is_unit : ℕ → Option ℕ → Bool
is_unit u None = false
is_unit u (Some k) = k == u

-- whether the name is that of unit u
abbrev pub is_name_of : Problem → ℕ → List ℕ → Bool
is_name_of p u name = is_unit u (number_of p name)

-- the units of these names
abbrev pub units_named : Problem → List (List ℕ) → ℕ → Bool
units_named p names u = list_any (is_name_of p u) names

-- whether no unit has the name
abbrev pub is_stranger : Problem → List ℕ → Bool
is_stranger p name = is_none (number_of p name)

-- the first name that no unit has
abbrev pub first_stranger : Problem → List (List ℕ) → Option (List ℕ)
first_stranger p = find (is_stranger p)

abbrev pub axiom_word : Axiom → List ℕ
axiom_word S1 = codes "S1"
axiom_word S2 = codes "S2"
axiom_word S3 = codes "S3"
axiom_word S4 = codes "S4"
axiom_word S5 = codes "S5"

abbrev pub breaks_line : Axiom → List ℕ → List ℕ
breaks_line broken name = codes "breaks " ++ axiom_word broken ++ 32 ∷ name

-- the name of the place: a material for S1, S2 and S5, a unit for S3 and S4
abbrev pub place_name : Problem → Axiom → ℕ → List ℕ
place_name p S1 at = (material_at p at).name
place_name p S2 at = (material_at p at).name
place_name p S3 at = (unit_at p at).name
place_name p S4 at = (unit_at p at).name
place_name p S5 at = (material_at p at).name

-- what a verdict says
abbrev pub VerdictSays : Problem → Verdict → Status → List (List ℕ) → Type 0
VerdictSays p Meets status lines = (status ≡ Done) × (lines ≡ codes "meets" ∷ [])
VerdictSays p (Breaks broken at) status lines =
    (status ≡ Refused) × (lines ≡ breaks_line broken (place_name p broken at) ∷ [])

-- what is said of the names, given the first of them that no unit has, if there is one
abbrev pub NamesSay : List (List ℕ) → Problem → Option (List ℕ) → Status → List (List ℕ) → Type 0
NamesSay names p (Some stranger) status lines =
    (status ≡ Refused) × (lines ≡ breaks_line S3 stranger ∷ [])
NamesSay names p None status lines =
    (verdict : Verdict) × Judges (shape_of p) (units_named p names) verdict
    × VerdictSays p verdict status lines

abbrev pub AxiomsWork : List (List ℕ) → Problem → Status → List (List ℕ) → Type 0
AxiomsWork names p = NamesSay names p (first_stranger p names)
