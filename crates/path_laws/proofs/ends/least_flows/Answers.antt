use Rattle.path_laws.proofs.EndLemmas as law
use Rattle.path_laws.proofs.ends.least_flows.Goals as goal

pub returns-clause-scale : goal.returns-clause-scale
returns-clause-scale c = law.scale_is_positive

pub returns-clause-reached : goal.returns-clause-reached
returns-clause-reached c = law.bound_is_reached

pub returns-clause-least : goal.returns-clause-least
returns-clause-least c = law.bound_is_least
