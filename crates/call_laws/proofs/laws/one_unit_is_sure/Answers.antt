use Rattle.call_laws.proofs.OneUnitLemmas as lemmas
use Rattle.call_laws.proofs.laws.one_unit_is_sure.Goals as goal

pub returns : goal.returns
returns c = lemmas.one_unit_is_sure
