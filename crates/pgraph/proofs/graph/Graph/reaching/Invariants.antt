use Rattle.std.proofs.Common.{◌-◌, length}
use Rattle.flow_rules.specs.number_sets.Sets.{has}
use Rattle.pgraph.specs.Tables.{shape}
use Rattle.pgraph.proofs.PathLemmas.{IsGrowing}
use Rattle.pgraph.proofs.graph.Graph.reaching.Given as goal

abbrev pub invariant-grow : goal.invariant-grow
invariant-grow l = IsGrowing (shape l.self) (has l.fn.set) (has l.found) (has l.wanted) (has l.done)

abbrev pub decreases-grow : goal.decreases-grow
decreases-grow l = 256 - length l.done
