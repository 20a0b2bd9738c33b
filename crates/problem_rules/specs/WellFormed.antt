-- A problem is well formed if each of its materials, operating units and exclusions is. No two of
-- them of one sort have the same name. It has a product and a payout period of 1 to 100 years, and
-- at most 256 materials, 128 units and 64 exclusions.
use Rattle.std.specs.Prelude.{◌≡◌, ◌↔◌, ◌<◌, ◌≤◌, ℕ, ◌+◌, true, false, List, [], ◌∷◌, length, ℤ}
use Rattle.std.specs.Prelude.{pos, int_lt, unsigned_abs}
use Rattle.problem_rules.specs.Problem.{Problem, Material, Term, OperatingUnit, Exclusion}
use Rattle.problem_rules.specs.Problem.{material_names, unit_names, exclusion_names}
use Rattle.problem_rules.specs.Names.{is_name, has_double}
use Rattle.problem_rules.specs.Each.{Each}
use Rattle.problem_rules.specs.Validity.{repeats_material, shares_material, has_product, IsValid}

-- an amount of at most 10^9 in absolute value, in millionths
abbrev pub IsInRange : ℤ → Type 0
IsInRange z = unsigned_abs z ≤ 1000000000000000

-- an amount in range that is not below 0
pub record IsBound (z : ℤ) : Type 0 where
  pub in_range : IsInRange z
  pub not_negative : int_lt z (pos 0) ≡ false

pub record AreBounds (lower upper : ℤ) : Type 0 where
  pub lower_bound : IsBound lower
  pub upper_bound : IsBound upper
  pub ordered : int_lt upper lower ≡ false

pub record IsWellFormedMaterial (m : Material) : Type 0 where
  pub named : is_name m.name ≡ true
  pub price_in_range : IsInRange m.price
  pub bounds : AreBounds m.lower m.upper

-- a rate above 0, of one of so many materials
pub record IsWellFormedTerm (materials : ℕ) (t : Term) : Type 0 where
  pub known : t.material < materials
  pub in_range : IsInRange t.rate
  pub positive : int_lt (pos 0) t.rate ≡ true

-- one side of a unit: at least one term, and no material twice
pub record IsWellFormedSide (materials : ℕ) (terms : List Term) : Type 0 where
  pub some : 0 < length terms
  pub terms_formed : Each (IsWellFormedTerm materials) terms
  pub once : repeats_material terms ≡ false

-- in addition, no material is on both sides
pub record IsWellFormedUnit (materials : ℕ) (u : OperatingUnit) : Type 0 where
  pub named : is_name u.name ≡ true
  pub bounds : AreBounds u.lower u.upper
  pub fix : IsBound u.fix
  pub proportional : IsInRange u.proportional
  pub investment_fix : IsBound u.investment_fix
  pub investment_proportional : IsInRange u.investment_proportional
  pub inputs : IsWellFormedSide materials u.inputs
  pub outputs : IsWellFormedSide materials u.outputs
  pub sides_apart : shares_material u.inputs u.outputs ≡ false

-- numbers from `least` on that rise and are below `units`
abbrev pub AreRisingFrom : ℕ → ℕ → List ℕ → Type 0
AreRisingFrom units least [] = Unit {0}
AreRisingFrom units least (u ∷ us) = (least ≤ u) × (u < units) × AreRisingFrom units (u + 1) us

pub record IsWellFormedExclusion (units : ℕ) (e : Exclusion) : Type 0 where
  pub named : is_name e.name ≡ true
  pub enough : 2 ≤ length e.units
  pub rising : AreRisingFrom units 0 e.units

pub record IsWellFormed (p : Problem) : Type 0 where
  pub few_materials : length p.materials ≤ 256
  pub few_units : length p.units ≤ 128
  pub few_exclusions : length p.exclusions ≤ 64
  pub materials_formed : Each IsWellFormedMaterial p.materials
  pub units_formed : Each (IsWellFormedUnit (length p.materials)) p.units
  pub exclusions_formed : Each (IsWellFormedExclusion (length p.units)) p.exclusions
  pub materials_apart : has_double (material_names p.materials) ≡ false
  pub units_apart : has_double (unit_names p.units) ≡ false
  pub exclusions_apart : has_double (exclusion_names p.exclusions) ≡ false
  pub with_product : has_product p.materials ≡ true
  pub payout_positive : int_lt (pos 0) p.payout ≡ true
  pub payout_limit : unsigned_abs p.payout ≤ 100

-- a problem is valid exactly if it is well formed
abbrev pub ValidIsWellFormed : Type 0
ValidIsWellFormed = (p : Problem) → IsValid p ↔ IsWellFormed p
