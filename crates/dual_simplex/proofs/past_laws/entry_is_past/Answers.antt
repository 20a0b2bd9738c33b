use Rattle.dual_simplex.proofs.PastLemmas as law
use Rattle.dual_simplex.proofs.past_laws.entry_is_past.Goals as goal

pub returns : goal.returns
returns c = law.entry_is_past
