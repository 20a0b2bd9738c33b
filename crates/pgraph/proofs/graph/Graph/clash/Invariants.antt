use Rattle.std.proofs.Common.{◌<◌, ℕ}
use Rattle.flow_rules.specs.number_sets.Sets.{has}
use Rattle.flow_rules.specs.pns_rules.Structure.{Clashes}
use Rattle.pgraph.specs.Tables.{shape}
use Rattle.pgraph.proofs.graph.Graph.clash.Given as goal

abbrev pub invariant-exclusions : goal.invariant-exclusions
invariant-exclusions l = (j : ℕ) → j < l.k → Clashes (shape l.self) (has l.set) j → ⊥
