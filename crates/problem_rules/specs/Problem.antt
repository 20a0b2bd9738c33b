-- A synthesis problem: materials and operating units, numbered from 0 in file order, mutual
-- exclusions, and a payout period in years. Prices, bounds, costs and rates are whole millionths.
-- It is the triple of products, raw materials and operating units of Friedler, Tarjan, Huang and
-- Fan (1992), with quantities.
use Rattle.std.specs.Prelude.{◌-ℤ◌, ℕ, ◌==◌, ℤ, pos, Bool, true, false, ◌||◌, List, [], ◌∷◌, map}
use Rattle.std.specs.Prelude.{slice_index_or}

pub data Kind : Type 0 where
  raw_material intermediate product : Kind

pub record Material : Type 0 where
  pub name : List ℕ
  pub kind : Kind
  pub price : ℤ
  pub lower : ℤ
  pub upper : ℤ

-- the number of a material, with the rate at which a unit uses or makes it
pub record Term : Type 0 where
  pub material : ℕ
  pub rate : ℤ

pub record OperatingUnit : Type 0 where
  pub name : List ℕ
  pub lower : ℤ
  pub upper : ℤ
  pub fix : ℤ
  pub proportional : ℤ
  pub investment_fix : ℤ
  pub investment_proportional : ℤ
  pub inputs : List Term
  pub outputs : List Term

-- units, by their rising numbers, of which a network has at most one
pub record Exclusion : Type 0 where
  pub name : List ℕ
  pub units : List ℕ

pub record Problem : Type 0 where
  pub materials : List Material
  pub units : List OperatingUnit
  pub exclusions : List Exclusion
  pub payout : ℤ

-- what is given for the number of a material, a unit or an exclusion that the problem does not have
abbrev pub no_material : Material
no_material = record { name = []; kind = intermediate; price = pos 0; lower = pos 0; upper = pos 0 }

abbrev pub no_unit : OperatingUnit
no_unit = record {
  name = [];
  lower = pos 0;
  upper = pos 0;
  fix = pos 0;
  proportional = pos 0;
  investment_fix = pos 0;
  investment_proportional = pos 0;
  inputs = [];
  outputs = [];
}

abbrev pub no_exclusion : Exclusion
no_exclusion = record { name = []; units = [] }

abbrev pub material_at : Problem → ℕ → Material
material_at p x = slice_index_or p.materials x no_material

abbrev pub unit_at : Problem → ℕ → OperatingUnit
unit_at p u = slice_index_or p.units u no_unit

abbrev pub exclusion_at : Problem → ℕ → Exclusion
exclusion_at p k = slice_index_or p.exclusions k no_exclusion

abbrev pub is_raw_material : Kind → Bool
is_raw_material raw_material = true
is_raw_material intermediate = false
is_raw_material product = false

abbrev pub is_product : Kind → Bool
is_product raw_material = false
is_product intermediate = false
is_product product = true

-- the names of the materials, units and exclusions
abbrev pub material_names : List Material → List (List ℕ)
material_names materials = map (λ (m : Material). m.name) materials

abbrev pub unit_names : List OperatingUnit → List (List ℕ)
unit_names units = map (λ (u : OperatingUnit). u.name) units

abbrev pub exclusion_names : List Exclusion → List (List ℕ)
exclusion_names exclusions = map (λ (e : Exclusion). e.name) exclusions

-- the material numbers of a list of terms, and their rates
abbrev pub numbers_of : List Term → List ℕ
numbers_of terms = map (λ (t : Term). t.material) terms

abbrev pub rates_of : List Term → List ℤ
rates_of terms = map (λ (t : Term). t.rate) terms

-- whether the list of terms has the material
abbrev pub terms_have : List Term → ℕ → Bool
terms_have [] x = false
terms_have (t ∷ ts) x = (t.material == x) || terms_have ts x

-- its rate in the list, or 0 if it is not there
abbrev pub rate_in : List Term → ℕ → ℤ
rate_in [] x = pos 0
rate_in (t ∷ ts) x = elim (t.material == x) [ true ↦ t.rate | false ↦ rate_in ts x ]

-- the rate at which unit u makes material x, minus the rate at which it uses it
abbrev pub rate_of : Problem → ℕ → ℕ → ℤ
rate_of p x u = rate_in (unit_at p u).outputs x -ℤ rate_in (unit_at p u).inputs x
