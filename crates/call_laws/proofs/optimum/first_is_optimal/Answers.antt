use Rattle.call_laws.proofs.OptimalCosts.{first_is_optimal}
use Rattle.call_laws.proofs.optimum.first_is_optimal.Goals as goal

pub returns : goal.returns
returns c = first_is_optimal
