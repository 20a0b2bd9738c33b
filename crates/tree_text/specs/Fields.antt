-- The fields of a line: what each prints, and that its names are those of the problem.
use Rattle.std.specs.Prelude.{List, [], ◌∷◌, ◌++◌, map, decimal}
use Rattle.std.specs.Fmt.{signed_decimal}
use Rattle.tree_text_rules.specs.problem_rules.Problem.{Problem}
use Rattle.tree_text_rules.specs.problem_rules.Each.{Each}
use Rattle.tree_text_rules.specs.tree_rules.Known.{IsUnit, IsMaterial, IsExclusion, AreUnits}
use Rattle.tree_text_rules.specs.tree_rules.Known.{KnowsColumn}
use Rattle.tree_text_rules.specs.tree_rules.Known.{KnowsPlace}
use Rattle.tree_text_rules.specs.Line.{Token}
use Rattle.tree_text_rules.specs.Spelling.{unit_name, material_name, exclusion_name, column_text}
use Rattle.tree_text_rules.specs.Spelling.{place_fields}
use Rattle.tree_text.specs.declared.line.Field.{Field}
use Rattle.tree_text.specs.declared.line.Field.TheVariants as fields

abbrev pub KnowsField : Problem → Field → Type 0
KnowsField p (fields.Unit u) = IsUnit p u
KnowsField p (fields.Units us) = AreUnits p us
KnowsField p (fields.Material x) = IsMaterial p x
KnowsField p (fields.Exclusion k) = IsExclusion p k
KnowsField p (fields.Columns columns) = Each (KnowsColumn p) columns.now
KnowsField p (fields.Place place) = KnowsPlace p place
KnowsField p (fields.Count count) = Unit {0}
KnowsField p (fields.Options options) = Unit {0}
KnowsField p (fields.Number number) = Unit {0}
KnowsField p (fields.Numbers numbers) = Unit {0}

abbrev pub field_tokens : Problem → Field → List Token
field_tokens p (fields.Unit u) = unit_name p u ∷ []
field_tokens p (fields.Units us) = map (unit_name p) us
field_tokens p (fields.Material x) = material_name p x ∷ []
field_tokens p (fields.Exclusion k) = exclusion_name p k ∷ []
field_tokens p (fields.Columns columns) = map (column_text p) columns.now
field_tokens p (fields.Place place) = place_fields p place
field_tokens p (fields.Count count) = decimal count ∷ []
field_tokens p (fields.Options options) = decimal options ∷ []
field_tokens p (fields.Number number) = signed_decimal number ∷ []
field_tokens p (fields.Numbers numbers) = map signed_decimal numbers.now

-- those of several fields, one after another
abbrev pub tokens_of : Problem → List Field → List Token
tokens_of p [] = []
tokens_of p (field ∷ []) = field_tokens p field
tokens_of p (field ∷ next ∷ fields) = field_tokens p field ++ tokens_of p (next ∷ fields)
