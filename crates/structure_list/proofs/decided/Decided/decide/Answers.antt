use Rattle.pgraph.specs.Tables.{shape}
use Rattle.structure_list.proofs.DecidedLemmas.{child_is}
use Rattle.structure_list.proofs.decided.Decided.decide.Goals as goal

pub returns-clause-child : goal.returns-clause-child
returns-clause-child c =
    child_is (shape c.args.graph.now) c.args.self.now.node c.args.x c.args.set c.producers.result
    c.minus.result c.union.result c.union-2.result
    c.union.ensures c.producers.ensures c.minus.ensures c.union-2.ensures
