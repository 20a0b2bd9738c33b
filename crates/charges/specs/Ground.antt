-- What the sum over the units reads of a node.
use Rattle.std.specs.Prelude.{◌≡◌, ◌≤◌, ◌^◌, ℕ, ℤ, List, true, ◌&&◌, not, unsigned_abs}
use Rattle.structure_list.specs.number_sets.Sets.{has}
use Rattle.structure_list.specs.pns_rules.Nodes.{Node}
use Rattle.structure_list.specs.pgraph.View.{node_of}
use Rattle.structure_list.specs.flow_rules.Net.{Net}
use Rattle.structure_list.specs.flow_rules.Relaxed.{units, rows}
use Rattle.flow_program.specs.Entry.{entry}
use Rattle.structure_list.specs.flow_rules.ChargeFacts as rules
use Rattle.structure_list.specs.flow_rules.Cover.{Cover, paid}
use Rattle.structure_list.specs.flow_rules.Charge.{useful}
use Rattle.charges.specs.Known.{facts_of}
use Rattle.charges.specs.declared.useful.Useful.{Useful}
use Rattle.charges.specs.declared.charge.Ground.{Ground}

-- the rows that are no raw materials, and what can be used of each of them
pub record AreUseful (net : Net) (n : Node) (f : rules.Facts) (u : Useful) : Type 0 where
  pub made : (j : ℕ) → has u.made j ≡ (has (rows net n) j && not (net.graph.raw j))
  pub value : (j : ℕ) → has u.made j ≡ true → entry u.most j ≡ useful net n f j
  pub small : (j : ℕ) → unsigned_abs (entry u.most j) ≤ 10 ^ 37

pub record IsGround (net : Net) (g : Ground) : Type 0 where
  pub units : g.units ≡ units net (node_of g.node)
  pub useful : AreUseful net (node_of g.node) (facts_of g.facts) g.useful

-- each unit is paid what the covers pay to it
abbrev pub ArePaid : List ℤ → List Cover → Type 0
ArePaid table covers = (i : ℕ) → entry table i ≡ paid covers i
