-- How far the items are judged: the number of the next item, the names so far, and that the fault
-- of the rest is that of all items.
use Rattle.std.proofs.Common.{◌≡◌, ℕ, List, [], ◌++◌, drop}
use Rattle.text_rules.specs.problem_rules.Problem.{Material, OperatingUnit, Exclusion}
use Rattle.text_rules.specs.problem_rules.Problem.{material_names}
use Rattle.text_rules.specs.problem_rules.Problem.{unit_names}
use Rattle.text_rules.specs.problem_rules.Validity.{materials_fault, units_fault, exclusions_fault}

pub record AreMaterialsJudged (materials : List Material) (k : ℕ) (before : List (List ℕ))
    (at : ℕ) : Type 0 where
  pub at_is : at ≡ k
  pub names : before ++ material_names (drop k materials) ≡ material_names materials
  pub rest : materials_fault before at (drop k materials) ≡ materials_fault [] 0 materials

pub record AreUnitsJudged (materials : ℕ) (units : List OperatingUnit) (k : ℕ)
    (before : List (List ℕ)) (at : ℕ) : Type 0 where
  pub at_is : at ≡ k
  pub names : before ++ unit_names (drop k units) ≡ unit_names units
  pub rest : units_fault materials before at (drop k units) ≡ units_fault materials [] 0 units

pub record AreExclusionsJudged (units : ℕ) (exclusions : List Exclusion) (k : ℕ)
    (before : List (List ℕ)) (at : ℕ) : Type 0 where
  pub at_is : at ≡ k
  pub rest : exclusions_fault units before at (drop k exclusions)
      ≡ exclusions_fault units [] 0 exclusions
