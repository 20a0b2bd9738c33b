use Rattle.dual_simplex.proofs.LawLemmas as law
use Rattle.dual_simplex.proofs.laws.kept_basis_is_last.Goals as goal

pub returns-clause-feasible : goal.returns-clause-feasible
returns-clause-feasible c = law.feasible_is_last

pub returns-clause-refuting : goal.returns-clause-refuting
returns-clause-refuting c = law.refuting_is_last

pub returns-clause-past : goal.returns-clause-past
returns-clause-past c = law.past_is_last
