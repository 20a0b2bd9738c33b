-- The sets that are read of a node's program: its units, its rows, and the materials that have to
-- be there.
use Rattle.std.specs.Prelude.{◌≡◌, ℕ, ◌||◌, List}
use Rattle.pgraph.specs.number_sets.Sets.{has, listed}
use Rattle.pgraph.specs.pns_rules.Shape.{Shape}
use Rattle.pgraph.specs.pns_rules.Structure.{mats}
use Rattle.pgraph.specs.pns_rules.Nodes.{Node}
use Rattle.pgraph.specs.flow_rules.Relaxed.{stays}

-- the products, and the materials of the units that are taken in
abbrev pub AreNeeded : Shape → Node → List ℕ → Type 0
AreNeeded g n needed = (j : ℕ) → has needed j ≡ (g.product j || mats g n.inside j)

pub record AreSetsOf (g : Shape) (n : Node) (units rows needed : List ℕ) : Type 0 where
  pub units_are : units ≡ listed g.units (stays n)
  pub rows_are : rows ≡ listed g.materials (mats g (stays n))
  pub needed_are : AreNeeded g n needed
