use Rattle.flow_evaluator.proofs.NodeLemmas.{outside_is, units_are}
use Rattle.flow_evaluator.proofs.laws.node_is_decided.Goals as goal

pub returns : goal.returns
returns c = λ p us set. (λ i h. outside_is p us i h, units_are p us set)
