use Rattle.dual_simplex.specs.number_sets.Sets.{has}
use Rattle.dual_simplex.specs.pgraph.Tables.{shape}
use Rattle.flow_evaluator.proofs.HandLemmas.{between_of}
use Rattle.flow_evaluator.proofs.at_hand.structure_of.Goals as goal

pub returns : goal.returns
returns c =
    between_of (shape c.args.graph.now) (has c.args.node.now.inside) (has c.args.in_use)
    c.args.spared c.args.node.now.outside c.union.result c.union.ensures c.requires.inside
    c.least_with.result c.least_with.ensures
