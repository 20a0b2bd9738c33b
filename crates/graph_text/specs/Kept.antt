-- What contracts see of a picture, and what always holds of it. Its graph is the one of the plant,
-- its units are units of the plant, its network is feasible, and its greatest flow is known.
use Rattle.std.specs.Prelude.{◌≡◌, ◌<◌, ℕ, true, List, Option, IfSome, length}
use Rattle.report_amounts.specs.number_sets.Sets.{has}
use Rattle.report_amounts.specs.problem_rules.Problem.{Problem}
use Rattle.report_amounts.specs.pns_rules.Shape.{Shape, shape_of}
use Rattle.report_amounts.specs.tree_rules.Claim.{Network, IsFeasible}
use Rattle.report_amounts.specs.report_rules.Drawn.{Picture, greatest_flow}

pub record Drawing : Type 0 where
  pub problem : Problem
  pub network : Option Network
  pub units : List ℕ

abbrev pub picture_of : Drawing → Picture
picture_of d = record { problem = d.problem; network = d.network; units = has d.units }

pub record IsKept (g : Shape) (most : ℕ) (d : Drawing) : Type 0 where
  pub same : g ≡ shape_of d.problem
  pub known : (u : ℕ) → has d.units u ≡ true → u < length d.problem.units
  pub feasible : IfSome d.network (IsFeasible d.problem)
  pub greatest : most ≡ greatest_flow d.problem d.network
