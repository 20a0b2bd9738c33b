use Rattle.call_laws.proofs.PlanLemmas as laws
use Rattle.call_laws.proofs.period_costs.read_is_plan.Goals as goal

pub returns : goal.returns
returns c = laws.read_is_plan c.valid_is_well_formed.ensures
