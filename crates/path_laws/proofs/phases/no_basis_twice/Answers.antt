use Rattle.path_laws.proofs.PhaseLawLemmas as law
use Rattle.path_laws.proofs.phases.no_basis_twice.Goals as goal

pub returns : goal.returns
returns c = law.no_basis_twice
