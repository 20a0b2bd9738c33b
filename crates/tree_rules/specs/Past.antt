-- When a number of a node's program overflows.
use Rattle.std.specs.Prelude.{List}
use Rattle.flow_rules.specs.problem_rules.Each.{Each}
use Rattle.flow_rules.specs.problem_rules.Problem.{Problem}
use Rattle.flow_rules.specs.pns_rules.Nodes.{Node}
use Rattle.flow_rules.specs.Net.{net_of}
use Rattle.flow_rules.specs.declared.place.Column.{Column}
use Rattle.flow_rules.specs.declared.place.Place.{Place}
use Rattle.tree_rules.specs.Known.{KnowsColumn, KnowsPlace}
use Rattle.flow_rules.specs.PastPlace.{IsPastNamed}

-- the number at the place overflows at the last basis of the path of the node's program, these are
-- the columns outside that basis, and all their numbers are those of units and materials of the
-- problem
pub record IsPastAt (p : Problem) (n : Node) (nonbasic : List Column) (place : Place) : Type 0 where
  pub past : IsPastNamed (net_of p) n nonbasic place
  pub columns : Each (KnowsColumn p) nonbasic
  pub known : KnowsPlace p place
