use Rattle.call_laws.proofs.SureCallLemmas as lemmas
use Rattle.call_laws.proofs.laws.sure_call_is_done.Goals as goal

pub returns-clause-premise : goal.returns-clause-premise
returns-clause-premise c = lemmas.sure_search_can_finish

pub returns-clause-done : goal.returns-clause-done
returns-clause-done c = lemmas.sure_call_is_done
