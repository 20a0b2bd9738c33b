use Rattle.path_laws.proofs.PhaseLawLemmas as law
use Rattle.path_laws.proofs.phases.path_is_complete.Goals as goal

pub returns-clause-start : goal.returns-clause-start
returns-clause-start c = law.start_has_rows

pub returns-clause-solutions : goal.returns-clause-solutions
returns-clause-solutions c = law.path_is_complete
