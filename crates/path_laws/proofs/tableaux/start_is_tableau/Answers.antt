use Rattle.path_laws.proofs.StartBasisLemmas.{start_independent}
use Rattle.path_laws.proofs.TableauLawLemmas as law
use Rattle.path_laws.proofs.tableaux.start_is_tableau.Goals as goal

pub returns-clause-basis : goal.returns-clause-basis
returns-clause-basis c = start_independent

pub returns-clause-tableau : goal.returns-clause-tableau
returns-clause-tableau c = law.start_is_tableau

pub returns-clause-solutions : goal.returns-clause-solutions
returns-clause-solutions c = law.start_is_complete
