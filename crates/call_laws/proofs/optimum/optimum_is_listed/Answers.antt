use Rattle.call_laws.proofs.OptimalCosts.{optimum_is_listed}
use Rattle.call_laws.proofs.optimum.optimum_is_listed.Goals as goal

pub returns : goal.returns
returns c = optimum_is_listed c.valid_is_well_formed.ensures
