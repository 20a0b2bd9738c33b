-- The numbers in a problem are those of its items, and are small enough to be renumbered.
use Rattle.std.specs.Prelude.{◌<◌, ◌≤◌, ℕ, List, length}
use Rattle.edit_laws.specs.problem_rules.Problem.{Problem, Term, OperatingUnit, Exclusion}
use Rattle.edit_laws.specs.problem_rules.Each.{Each}
use Rattle.edit_laws.specs.problem_rules.WellFormed.{IsInRange}

abbrev pub AreTermsBelow : ℕ → List Term → Type 0
AreTermsBelow limit terms = Each (λ (t : Term). t.material < limit) terms

pub record IsUnitBelow (limit : ℕ) (u : OperatingUnit) : Type 0 where
  pub inputs : AreTermsBelow limit u.inputs
  pub outputs : AreTermsBelow limit u.outputs

abbrev pub AreNumbersBelow : ℕ → List ℕ → Type 0
AreNumbersBelow limit numbers = Each (λ n. n < limit) numbers

abbrev pub IsExclusionBelow : ℕ → Exclusion → Type 0
IsExclusionBelow limit e = AreNumbersBelow limit e.units

pub record IsNumbered (p : Problem) : Type 0 where
  pub few_materials : length p.materials ≤ 256
  pub few_units : length p.units ≤ 128
  pub few_exclusions : length p.exclusions ≤ 64
  pub units_known : Each (IsUnitBelow (length p.materials)) p.units
  pub units_small : Each (IsUnitBelow 256) p.units
  pub exclusions_known : Each (IsExclusionBelow (length p.units)) p.exclusions
  pub exclusions_small : Each (IsExclusionBelow 128) p.exclusions

-- the yearly costs of a unit are so small that a hundred times them fits
pub record AreYearlyInRange (u : OperatingUnit) : Type 0 where
  pub fix : IsInRange u.fix
  pub proportional : IsInRange u.proportional

abbrev pub AreAllYearlyInRange : List OperatingUnit → Type 0
AreAllYearlyInRange units = Each AreYearlyInRange units
