use Rattle.call_laws.proofs.PeriodLemmas as laws
use Rattle.call_laws.proofs.period_costs.periods_are_certified.Goals as goal

pub returns : goal.returns
returns c = laws.periods_are_certified c.expanded_is_read.ensures c.one_cost.ensures
