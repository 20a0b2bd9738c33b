use Rattle.path_laws.proofs.TableauLawLemmas as law
use Rattle.path_laws.proofs.tableaux.pivots_keep_tableaux.Goals as goal

pub returns-clause-basis : goal.returns-clause-basis
returns-clause-basis c = law.pivot_keeps_independence

pub returns-clause-tableau : goal.returns-clause-tableau
returns-clause-tableau c = law.pivot_keeps_tableau

pub returns-clause-solutions : goal.returns-clause-solutions
returns-clause-solutions c = law.pivot_keeps_solutions
