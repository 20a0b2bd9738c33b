use Rattle.flow_rules.proofs.LastLemmas.{bound_is_last, cost_is_last, reduced_is_last}
use Rattle.flow_rules.proofs.LastLemmas.{balance_is_last}
use Rattle.flow_rules.proofs.sums_are_last.Goals as goal

pub returns-clause-bound : goal.returns-clause-bound
returns-clause-bound c = bound_is_last

pub returns-clause-cost : goal.returns-clause-cost
returns-clause-cost c = cost_is_last

pub returns-clause-reduced : goal.returns-clause-reduced
returns-clause-reduced c = reduced_is_last

pub returns-clause-balance : goal.returns-clause-balance
returns-clause-balance c = balance_is_last
