-- A node below another: it takes in all units that the other takes in, leaves out all that the
-- other leaves out, and no unit is both. Each child of a node is below it, and so is each node to
-- which steps lead.
use Rattle.tree_laws.specs.number_sets.Sets.{IsWithin, Avoids}
use Rattle.tree_laws.specs.pns_rules.Nodes.{Node}

pub record IsBelow (n m : Node) : Type 0 where
  pub more_inside : IsWithin n.inside m.inside
  pub more_outside : IsWithin n.outside m.outside
  pub apart : Avoids m.inside m.outside
