use Rattle.flow_program.specs.pgraph.View.{node_of}
use Rattle.tree_rules.specs.flow_rules.Net.{net_of}
use Rattle.scaled_flows.specs.Found.{AreRateDivisors}
use Rattle.scaled_flows.proofs.divisors.rate_divisors.Given as goal

abbrev pub invariant-materials : goal.invariant-materials
invariant-materials l = AreRateDivisors (net_of l.fn.problem) (node_of l.fn.taken) l.rates.items l.j
