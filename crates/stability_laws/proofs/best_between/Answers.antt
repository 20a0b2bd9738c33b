use Rattle.stability_laws.proofs.NetLemmas.{cost_is_a_line}
use Rattle.stability_laws.proofs.BestLemmas.{best_between}
use Rattle.stability_laws.proofs.best_between.Goals as goal

pub returns-clause-line : goal.returns-clause-line
returns-clause-line c = cost_is_a_line

pub returns-clause-between : goal.returns-clause-between
returns-clause-between c = best_between
