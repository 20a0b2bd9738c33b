-- A network and a spot of a problem, with what is kept of them while a range is sought.
use Rattle.std.specs.Prelude.{◌≡◌, ◌≤◌, ℕ, ℤ}
use Rattle.stability_laws.specs.problem_rules.Problem.{Problem}
use Rattle.stability_laws.specs.pns_rules.Shape.{Shape, shape_of}
use Rattle.stability_laws.specs.tree_rules.Claim.{Network, IsFeasible}
use Rattle.stability_laws.specs.report_rules.declared.spot.Spot.{Spot}
use Rattle.stability_laws.specs.report_rules.Spot.{KnowsSpot, value_at, IsAllowedValue}

pub record Case : Type 0 where
  pub problem : Problem
  pub network : Network
  pub spot : Spot
  pub budget : ℕ

-- the graph is that of the problem, the network passes as a claim, and the present value is that of
-- the spot
pub record IsCase (p : Problem) (g : Shape) (w : Network) (spot : Spot) (present : ℤ)
    (budget : ℕ) : Type 0 where
  pub graph : g ≡ shape_of p
  pub feasible : IsFeasible p w
  pub known : KnowsSpot p spot
  pub present_is : present ≡ value_at p spot
  pub allowed : IsAllowedValue spot present
  pub some : 1 ≤ budget
