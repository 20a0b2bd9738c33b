use Rattle.dual_simplex.proofs.LawLemmas as law
use Rattle.dual_simplex.proofs.laws.none_is_refuted.Goals as goal

pub returns : goal.returns
returns c = law.none_is_refuted
