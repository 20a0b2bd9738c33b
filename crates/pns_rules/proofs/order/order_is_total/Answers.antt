use Rattle.pns_rules.proofs.OrderLemmas as orders
use Rattle.pns_rules.proofs.order.order_is_total.Goals as goal

pub returns-clause-strict : goal.returns-clause-strict
returns-clause-strict c = orders.before_strict

pub returns-clause-transitive : goal.returns-clause-transitive
returns-clause-transitive c = orders.before_trans

pub returns-clause-total : goal.returns-clause-total
returns-clause-total c = orders.order_is_total
