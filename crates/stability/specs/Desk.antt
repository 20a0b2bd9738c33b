-- The problem of a case with one value after the other in the spot, and what the searches over it
-- share.
use Rattle.std.specs.Prelude.{◌≡◌, ℕ, ℤ, List}
use Rattle.stability_laws.specs.problem_rules.Problem.{Problem}
use Rattle.stability_laws.specs.pns_rules.Shape.{shape_of}
use Rattle.solver.specs.neutral_extension.Candidates.{AreMakersOf}
use Rattle.stability_laws.specs.report_rules.Spot.{valued}
use Rattle.stability.specs.Case.{Case}

pub record Desk : Type 0 where
  pub problem : Problem
  pub makers : List (List ℕ)

-- its problem is that of the case with some value in the spot, and its makers are those of the
-- case's P-graph
pub record IsDesk (c : Case) (d : Desk) : Type 0 where
  pub value : ℤ
  pub problem : d.problem ≡ valued c.problem c.spot value
  pub makers : AreMakersOf (shape_of c.problem) d.makers
