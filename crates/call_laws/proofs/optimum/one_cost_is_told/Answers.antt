use Rattle.call_laws.proofs.ToldOnce.{one_cost_is_told}
use Rattle.call_laws.proofs.optimum.one_cost_is_told.Goals as goal

pub returns : goal.returns
returns c = one_cost_is_told
