use Rattle.scaled_flows.proofs.OptimalLemmas as laws
use Rattle.scaled_flows.proofs.settled_are_optimal.Goals as goal

pub returns-clause-relaxed : goal.returns-clause-relaxed
returns-clause-relaxed c = laws.settled_are_relaxed

pub returns-clause-cost : goal.returns-clause-cost
returns-clause-cost c = laws.cost_is_counted

pub returns-clause-optimal : goal.returns-clause-optimal
returns-clause-optimal c = laws.settled_are_optimal
