use Rattle.call_laws.proofs.OptimalCosts.{listed_cost_enough}
use Rattle.call_laws.proofs.optimum.listed_cost_enough.Goals as goal

pub returns : goal.returns
returns c = listed_cost_enough c.valid_is_well_formed.ensures
