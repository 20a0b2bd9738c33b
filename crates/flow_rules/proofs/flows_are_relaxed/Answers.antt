use Rattle.flow_rules.proofs.DualityLemmas.{flows_are_relaxed, relaxed_costs_less}
use Rattle.flow_rules.proofs.flows_are_relaxed.Goals as goal

pub returns-clause-relaxed : goal.returns-clause-relaxed
returns-clause-relaxed c = flows_are_relaxed

pub returns-clause-cost : goal.returns-clause-cost
returns-clause-cost c = relaxed_costs_less
