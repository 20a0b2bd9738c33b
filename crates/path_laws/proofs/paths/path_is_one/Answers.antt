use Rattle.path_laws.proofs.PathLawLemmas as law
use Rattle.path_laws.proofs.paths.path_is_one.Goals as goal

pub returns-clause-tableau : goal.returns-clause-tableau
returns-clause-tableau c = law.tableau_is_one

pub returns-clause-next : goal.returns-clause-next
returns-clause-next c = law.next_is_one

pub returns-clause-path : goal.returns-clause-path
returns-clause-path c = law.path_is_one

pub returns-clause-last : goal.returns-clause-last
returns-clause-last c = law.last_is_one

pub returns-clause-columns : goal.returns-clause-columns
returns-clause-columns c = law.basis_is_of_columns
