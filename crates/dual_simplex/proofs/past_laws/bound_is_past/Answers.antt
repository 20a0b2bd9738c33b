use Rattle.dual_simplex.proofs.PastLemmas as law
use Rattle.dual_simplex.proofs.past_laws.bound_is_past.Goals as goal

pub returns : goal.returns
returns c = law.bound_is_past
