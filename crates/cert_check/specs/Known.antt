-- Nodes whose units a graph knows.
use Rattle.std.specs.Prelude.{◌≡◌, ℕ, ◌<◌, true}
use Rattle.tree_text_rules.specs.pns_rules.Shape.{Shape}
use Rattle.tree_text_rules.specs.pns_rules.Nodes.{Node}

-- each unit that is taken in is one of the graph
abbrev pub KnowsInside : Shape → Node → Type 0
KnowsInside g n = (u : ℕ) → n.inside u ≡ true → u < g.units
