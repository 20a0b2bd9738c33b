use Rattle.call_laws.proofs.CostLemmas as laws
use Rattle.call_laws.proofs.costs.one_cost.Goals as goal

pub returns : goal.returns
returns c = laws.one_cost
