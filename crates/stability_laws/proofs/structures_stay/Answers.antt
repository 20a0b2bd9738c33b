use Rattle.stability_laws.proofs.NetLemmas.{shape_stays, feasible_stays}
use Rattle.stability_laws.proofs.structures_stay.Goals as goal

pub returns-clause-shape : goal.returns-clause-shape
returns-clause-shape c = shape_stays

pub returns-clause-feasible : goal.returns-clause-feasible
returns-clause-feasible c = feasible_stays
