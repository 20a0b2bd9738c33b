use Rattle.pns_rules.proofs.OrderLemmas.{before_at}
use Rattle.pns_rules.proofs.order.traces_branch.Goals as goal

pub returns : goal.returns
returns c = before_at
