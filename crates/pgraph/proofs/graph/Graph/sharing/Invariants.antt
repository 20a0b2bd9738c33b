use Rattle.std.proofs.Common.{◌≡◌, ◌↔◌, ℕ, true}
use Rattle.flow_rules.specs.number_sets.Sets.{has}
use Rattle.pgraph.specs.Tables.{shape}
use Rattle.pgraph.specs.Rivals.{SharesBelow}
use Rattle.pgraph.proofs.graph.Graph.sharing.Given as goal

abbrev pub invariant-loop-k : goal.invariant-loop-k
invariant-loop-k l = (u : ℕ) → (has l.found u ≡ true) ↔ SharesBelow (shape l.self) (has l.set) l.k u
