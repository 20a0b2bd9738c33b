-- What an evaluator keeps: common divisors of the numbers of its problem, the bench on which paths
-- are walked, and for how many units and materials it has room.
use Rattle.std.specs.Prelude.{◌≡◌, ℕ, length}
use Rattle.dual_simplex.specs.problem_rules.Problem.{Problem}
use Rattle.dual_simplex.specs.flow_rules.Net.{net_of}
use Rattle.certified_bounds.specs.scaled_flows.Divisors.{Divisors, AreDivisors}
use Rattle.dual_simplex.specs.Bench.{Bench, HasRoom}

pub record Evaluating : Type 0 where
  pub scales : Divisors
  pub bench : Bench
  pub units : ℕ
  pub materials : ℕ

-- it values the nodes of the problem
pub record IsFor (p : Problem) (e : Evaluating) : Type 0 where
  pub scales : AreDivisors (net_of p) e.scales
  pub room : HasRoom e.bench (length p.units) (length p.materials)
