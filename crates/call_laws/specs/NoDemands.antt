-- Plants without demands: nothing has to be made or bought, no unit has to run, no size earns.
use Rattle.std.specs.Prelude.{◌≡◌, ℕ, ◌<◌, pos, ◌≤ℤ◌, length}
use Rattle.studio.specs.problem_rules.Problem.{Problem, material_at, unit_at}
use Rattle.studio.specs.flow_rules.Net.{net_of, size_cost}

-- Every lower bound is 0, and no unit earns by its size: its proportional cost, less the price of
-- what it makes, and with the price of what it uses, is at least 0.
pub record HasNoDemands (p : Problem) : Type 0 where
  pub no_flow : (j : ℕ) → j < length p.materials → (material_at p j).lower ≡ pos 0
  pub no_size : (i : ℕ) → i < length p.units → (unit_at p i).lower ≡ pos 0
  pub no_gain : (i : ℕ) → i < length p.units → pos 0 ≤ℤ size_cost (net_of p) i
