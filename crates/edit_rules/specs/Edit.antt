-- An edit of a synthesis problem, with the names of its materials, operating units and exclusions.
-- Prices, bounds, costs and rates are whole millionths, and the payout period is whole years.
-- Places count from 0.
use Rattle.std.specs.Prelude.{ℕ, ℤ, List}
use Rattle.text_rules.specs.problem_rules.Problem.{Kind}

-- a material, by its name, with the rate at which a unit uses or makes it
pub record NamedTerm : Type 0 where
  pub name : List ℕ
  pub rate : ℤ

pub data Edit : Type 0 where
  -- material, price
  price : List ℕ → ℤ → Edit
  -- material, lower and upper bound
  bounds : List ℕ → ℤ → ℤ → Edit
  -- material, kind
  kind : List ℕ → Kind → Edit
  -- unit, lower and upper capacity
  capacity : List ℕ → ℤ → ℤ → Edit
  -- unit, yearly fixed cost
  fix : List ℕ → ℤ → Edit
  -- unit, yearly proportional cost
  proportional : List ℕ → ℤ → Edit
  -- old name, new name
  rename_material : List ℕ → List ℕ → Edit
  rename_unit : List ℕ → List ℕ → Edit
  -- place, name, kind, price, lower and upper bound
  add_material : ℕ → List ℕ → Kind → ℤ → ℤ → ℤ → Edit
  remove_material : List ℕ → Edit
  -- place, name, lower and upper capacity, yearly fixed and proportional cost, inputs, outputs
  add_unit : ℕ → List ℕ → ℤ → ℤ → ℤ → ℤ → List NamedTerm → List NamedTerm → Edit
  remove_unit : List ℕ → Edit
  -- place, name, units
  exclude : ℕ → List ℕ → List (List ℕ) → Edit
  unexclude : List ℕ → Edit
  -- unit, fixed and proportional cost of its investment
  investment : List ℕ → ℤ → ℤ → Edit
  -- years
  payout : ℤ → Edit

-- edits, each with the number of its line
pub record Script : Type 0 where
  pub edits : List Edit
  pub lines : List ℕ
