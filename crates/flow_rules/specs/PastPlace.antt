-- When a number overflows at a place for a node, by the numbers of the problem.
use Rattle.std.specs.Prelude.{◌≡◌, List}
use Rattle.flow_rules.specs.declared.place.Column.{Column}
use Rattle.flow_rules.specs.declared.place.Place.{Place}
use Rattle.pns_rules.specs.Nodes.{Node}
use Rattle.flow_rules.specs.Net.{Net}
use Rattle.flow_rules.specs.Program.{program_of}
use Rattle.flow_rules.specs.Columns.{Basis}
use Rattle.flow_rules.specs.Places as path
use Rattle.flow_rules.specs.Named.{nonbasic_named, place_named}

-- a number overflows at the place, at the last basis of the path of the node's program; these are
-- the columns outside that basis; all by the numbers of the problem
pub record IsPastNamed (net : Net) (n : Node) (nonbasic : List Column) (place : Place) : Type
    0 where
  pub last : Basis
  pub at : path.Place
  pub nonbasic_are : nonbasic ≡ nonbasic_named (program_of net n) last
  pub named : place ≡ place_named (program_of net n) at
  pub past : path.IsPast net n last at
