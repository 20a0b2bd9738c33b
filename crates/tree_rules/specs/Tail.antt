-- The point at which a search stopped. Nodes are counted from 0 in preorder.
use Rattle.std.specs.Prelude.{ℕ, List}
use Rattle.flow_rules.specs.declared.place.Column.{Column}
use Rattle.flow_rules.specs.declared.place.Place.{Place}

-- the search finished; it stopped before the node that would be branched next, into so many
-- options; or it stopped as a number of a node's program is out of range, at the basis that leaves
-- these columns out
pub data Tail : Type 0 where
  whole : Tail
  spent : ℕ → ℕ → Tail
  past : ℕ → List Column → Place → Tail
