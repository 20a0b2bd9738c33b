use Rattle.path_laws.proofs.PathLawLemmas as law
use Rattle.path_laws.proofs.paths.columns_are_ordered.Goals as goal

pub returns-clause-order : goal.returns-clause-order
returns-clause-order c = law.columns_are_ordered

pub returns-clause-level : goal.returns-clause-level
returns-clause-level c = law.columns_differ
