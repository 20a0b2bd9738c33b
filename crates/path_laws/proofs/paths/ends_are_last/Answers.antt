use Rattle.path_laws.proofs.PathLawLemmas as law
use Rattle.path_laws.proofs.paths.ends_are_last.Goals as goal

pub returns-clause-feasible : goal.returns-clause-feasible
returns-clause-feasible c = law.feasible_last

pub returns-clause-refuting : goal.returns-clause-refuting
returns-clause-refuting c = law.refuting_last

pub returns-clause-past : goal.returns-clause-past
returns-clause-past c = law.past_last
