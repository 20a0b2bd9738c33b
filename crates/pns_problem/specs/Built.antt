-- What is true of a problem that was built: its parts are valid, and its tables list the names in
-- order.
use Rattle.std.specs.Prelude.{◌≡◌, ℕ, List}
use Rattle.text_rules.specs.problem_rules.Problem.{Problem, material_names, unit_names}
use Rattle.text_rules.specs.problem_rules.Validity.{IsValid}

pub record IsBuilt (p : Problem) (materials units : List (List ℕ)) : Type 0 where
  pub valid : IsValid p
  pub materials_named : materials ≡ material_names p.materials
  pub units_named : units ≡ unit_names p.units
