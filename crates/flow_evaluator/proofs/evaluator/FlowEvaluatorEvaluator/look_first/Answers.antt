use Rattle.dual_simplex.specs.pgraph.View.{node_of}
use Rattle.flow_evaluator.proofs.evaluator.FlowEvaluatorEvaluator.look_first.Goals as goal

pub returns-clause-first : goal.returns-clause-first
returns-clause-first c =
    c.first_look_of-first.ensures c.args.site.now (node_of c.args.node) c.in_ok-told.ensures.bounded
