use Rattle.charges.specs.pgraph.Tables.{shape}
use Rattle.cert_check.proofs.NodeLemmas.{child_is}
use Rattle.cert_check.proofs.nodes.child.Goals as goal

pub returns : goal.returns
returns c =
    child_is (shape c.args.graph.now) c.args.node.now c.args.x c.args.option c.producers.result
    c.minus.result c.union.result c.union-2.result
    c.union.ensures c.producers.ensures c.minus.ensures c.union-2.ensures
