use Rattle.dual_simplex.proofs.PastLemmas as law
use Rattle.dual_simplex.proofs.past_laws.balance_is_past.Goals as goal

pub returns : goal.returns
returns c = law.balance_is_past
