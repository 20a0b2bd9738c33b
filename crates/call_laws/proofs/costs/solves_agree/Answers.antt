use Rattle.call_laws.proofs.CostLemmas as laws
use Rattle.call_laws.proofs.costs.solves_agree.Goals as goal

pub returns : goal.returns
returns c = laws.solves_agree
