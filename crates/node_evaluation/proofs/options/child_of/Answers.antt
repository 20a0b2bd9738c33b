use Rattle.structure_list.specs.pgraph.Tables.{shape}
use Rattle.node_evaluation.specs.Choices.{way_of}
use Rattle.node_evaluation.proofs.OptionLemmas.{child_is}
use Rattle.node_evaluation.proofs.options.child_of.Goals as goal

pub returns : goal.returns
returns c =
    child_is (shape c.args.graph.now) c.args.node.now (way_of c.args.choice) c.args.option
    c.decided.result c.minus.result c.union.result c.union-2.result
    c.union.ensures c.decided.ensures c.minus.ensures c.union-2.ensures
