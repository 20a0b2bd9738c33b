use Rattle.tree_parts.proofs.OrderLemmas.{either_order, any_order, each_order}
use Rattle.tree_parts.proofs.laws.order_is_free.Goals as goal

pub returns-clause-two : goal.returns-clause-two
returns-clause-two c = either_order

pub returns-clause-many : goal.returns-clause-many
returns-clause-many c = any_order

pub returns-clause-each : goal.returns-clause-each
returns-clause-each c = each_order
