use Rattle.flow_rules.proofs.ChargeDualityLemmas.{own_facts_hold, flows_fit}
use Rattle.flow_rules.proofs.flows_fit.Goals as goal

pub returns-clause-own : goal.returns-clause-own
returns-clause-own c = own_facts_hold

pub returns-clause-fit : goal.returns-clause-fit
returns-clause-fit c = flows_fit
