use Rattle.path_laws.proofs.SplitLemmas as law
use Rattle.path_laws.proofs.ends.split_nodes.Goals as goal

pub returns-clause-flows : goal.returns-clause-flows
returns-clause-flows c = law.relaxed_are_flows

pub returns-clause-cost : goal.returns-clause-cost
returns-clause-cost c = law.relaxed_cost_is_cost
