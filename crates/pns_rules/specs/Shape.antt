-- What the axioms read of a problem, as numbers and tests: how many materials, operating units and
-- exclusions there are; which materials are raw, and which are products; what each unit uses and
-- makes; which exclusion names which unit. It is the P-graph of the problem without its rates.
use Rattle.std.specs.Prelude.{◌≡◌, ◌<◌, ℕ, Bool, true, length}
use Rattle.number_sets.specs.Sets.{has}
use Rattle.problem_rules.specs.Problem.{Problem, material_at, unit_at, exclusion_at}
use Rattle.problem_rules.specs.Problem.{is_raw_material, is_product, terms_have}

pub record Shape : Type 0 where
  pub materials : ℕ
  pub units : ℕ
  pub raw : ℕ → Bool
  pub product : ℕ → Bool
  pub uses : ℕ → ℕ → Bool
  pub makes : ℕ → ℕ → Bool
  pub exclusions : ℕ
  pub excludes : ℕ → ℕ → Bool

abbrev pub shape_of : Problem → Shape
shape_of p = record {
  materials = length p.materials;
  units = length p.units;
  raw = λ x. is_raw_material (material_at p x).kind;
  product = λ x. is_product (material_at p x).kind;
  uses = λ u x. terms_have (unit_at p u).inputs x;
  makes = λ u x. terms_have (unit_at p u).outputs x;
  exclusions = length p.exclusions;
  excludes = λ k u. has (exclusion_at p k).units u;
}

-- what holds of the shape of each valid problem: products, inputs, outputs and excluded units are
-- known, no raw material is a product, and no unit uses what it makes
pub record IsProper (g : Shape) : Type 0 where
  pub product_known : (x : ℕ) → g.product x ≡ true → x < g.materials
  pub input_known : (u x : ℕ) → g.uses u x ≡ true → x < g.materials
  pub output_known : (u x : ℕ) → g.makes u x ≡ true → x < g.materials
  pub kinds_apart : (x : ℕ) → g.raw x ≡ true → g.product x ≡ true → ⊥
  pub user_known : (u x : ℕ) → g.uses u x ≡ true → u < g.units
  pub maker_known : (u x : ℕ) → g.makes u x ≡ true → u < g.units
  pub excluded_known : (k u : ℕ) → g.excludes k u ≡ true → (k < g.exclusions) × (u < g.units)
  pub sides_apart : (u x : ℕ) → g.uses u x ≡ true → g.makes u x ≡ true → ⊥
