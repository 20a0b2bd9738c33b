use Rattle.path_laws.proofs.PhaseLawLemmas as law
use Rattle.path_laws.proofs.phases.first_unit_has_pivot.Goals as goal

pub returns : goal.returns
returns c = law.first_unit_has_pivot
