use Rattle.call_laws.proofs.NoDemandsLemmas as lemmas
use Rattle.call_laws.proofs.laws.nothing_is_past.Goals as goal

pub returns : goal.returns
returns c = lemmas.nothing_is_past
