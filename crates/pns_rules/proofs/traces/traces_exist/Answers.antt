use Rattle.std.proofs.Common.{[]}
use Rattle.pns_rules.proofs.TraceLemmas.{a_trace, one_trace}
use Rattle.pns_rules.proofs.traces.traces_exist.Goals as goal

pub returns-clause-exist : goal.returns-clause-exist
returns-clause-exist c = a_trace

pub returns-clause-unique : goal.returns-clause-unique
returns-clause-unique c = λ g s t t' h k. one_trace g s [] t t' h k
