-- The part of a problem's validity that its edits need: what depends on neighbours and on counts.
use Rattle.std.specs.Prelude.{◌≡◌, ℕ, ◌<◌, ◌≤◌, true, false, List, length, int_lt}
use Rattle.edit_rules.specs.number_sets.Sets.{IsRising, AreBelow}
use Rattle.edit_rules.specs.problem_rules.Problem.{Problem, Material, Term, OperatingUnit}
use Rattle.edit_rules.specs.problem_rules.Problem.{Exclusion}
use Rattle.edit_rules.specs.problem_rules.Problem.{material_names, unit_names, exclusion_names}
use Rattle.edit_rules.specs.problem_rules.Each.{Each}
use Rattle.edit_rules.specs.problem_rules.Validity.{has_product}
use Rattle.edit_laws.proofs.NameLemmas.{AreApart}

abbrev pub AreKnown : ℕ → List Term → Type 0
AreKnown n ts = Each (λ (t : Term). t.material < n) ts

pub record IsSoundUnit (materials : ℕ) (u : OperatingUnit) : Type 0 where
  pub ordered : int_lt u.upper u.lower ≡ false
  pub inputs_known : AreKnown materials u.inputs
  pub outputs_known : AreKnown materials u.outputs

pub record IsSoundExclusion (units : ℕ) (x : Exclusion) : Type 0 where
  pub rising : IsRising x.units
  pub below : AreBelow units x.units

pub record IsSound (p : Problem) : Type 0 where
  pub materials_apart : AreApart (material_names p.materials)
  pub units_apart : AreApart (unit_names p.units)
  pub exclusions_apart : AreApart (exclusion_names p.exclusions)
  pub with_product : has_product p.materials ≡ true
  pub ordered : Each (λ (m : Material). int_lt m.upper m.lower ≡ false) p.materials
  pub units_sound : Each (IsSoundUnit (length p.materials)) p.units
  pub exclusions_sound : Each (IsSoundExclusion (length p.units)) p.exclusions
  pub few_materials : length p.materials ≤ 256
  pub few_units : length p.units ≤ 128
  pub few_exclusions : length p.exclusions ≤ 64
