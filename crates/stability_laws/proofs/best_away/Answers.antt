use Rattle.stability_laws.proofs.RiseLemmas.{rises_enough}
use Rattle.stability_laws.proofs.BestLemmas.{best_away}
use Rattle.stability_laws.proofs.best_away.Goals as goal

pub returns-clause-rises : goal.returns-clause-rises
returns-clause-rises c = rises_enough

pub returns-clause-away : goal.returns-clause-away
returns-clause-away c = best_away
