use Rattle.flow_program.specs.pgraph.View.{node_of}
use Rattle.tree_rules.specs.flow_rules.Net.{net_of}
use Rattle.scaled_flows.proofs.FoundLemmas.{IsUnitsSoFar}
use Rattle.scaled_flows.proofs.divisors.unit_divisors.Given as goal

abbrev pub invariant-units : goal.invariant-units
invariant-units l = IsUnitsSoFar (net_of l.fn.problem) (node_of l.fn.taken) (node_of
    l.fn.free) l.common.0 l.common.1.0 l.u
