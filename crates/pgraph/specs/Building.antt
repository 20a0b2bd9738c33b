-- What the building of a graph reads of a problem.
use Rattle.std.specs.Prelude.{ℕ, Bool, List, slice_index_or}
use Rattle.flow_rules.specs.problem_rules.Problem.{Material, Term, OperatingUnit, Exclusion}
use Rattle.flow_rules.specs.problem_rules.Problem.{no_material}
use Rattle.flow_rules.specs.problem_rules.Problem.{no_unit, no_exclusion, is_raw_material}
use Rattle.flow_rules.specs.problem_rules.Problem.{is_product}
use Rattle.flow_rules.specs.problem_rules.Problem.{terms_have}
use Rattle.pgraph.specs.declared.arcs.Side.{Side}
use Rattle.pgraph.specs.declared.arcs.Side.TheVariants.{Inputs, Outputs}

-- the terms of a unit on one side
abbrev pub terms_on : Side → OperatingUnit → List Term
terms_on Inputs u = u.inputs
terms_on Outputs u = u.outputs

-- whether unit u has material x on that side
abbrev pub has_term : Side → List OperatingUnit → ℕ → ℕ → Bool
has_term side us u x = terms_have (terms_on side (slice_index_or us u no_unit)) x

-- whether material x is raw, and whether it is a product
abbrev pub is_raw_at : List Material → ℕ → Bool
is_raw_at ms x = is_raw_material (slice_index_or ms x no_material).kind

abbrev pub is_product_at : List Material → ℕ → Bool
is_product_at ms x = is_product (slice_index_or ms x no_material).kind

-- the units of exclusion k
abbrev pub units_excluded : List Exclusion → ℕ → List ℕ
units_excluded es k = (slice_index_or es k no_exclusion).units
