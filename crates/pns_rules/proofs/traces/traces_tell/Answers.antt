use Rattle.pns_rules.proofs.TraceLemmas.{traces_tell}
use Rattle.pns_rules.proofs.traces.traces_tell.Goals as goal

pub returns : goal.returns
returns c = traces_tell
