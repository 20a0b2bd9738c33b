use Rattle.pgraph.specs.Tables.{shape}
use Rattle.pgraph.proofs.OptionLemmas.{base_is, free_is, base_and_free_apart}
use Rattle.pgraph.proofs.graph.Graph.options.Goals as goal

pub returns-clause-base : goal.returns-clause-base
returns-clause-base c =
    base_is (shape c.args.self.now) c.is_proper.ensures.proper c.args.x c.args.node.inside
    c.args.node.outside c.producers-makers.result c.producers-makers.ensures c.meet-base.result
    c.rises.ensures.rising c.meet-base.ensures

pub returns-clause-free : goal.returns-clause-free
returns-clause-free c =
    free_is (shape c.args.self.now) c.is_proper.ensures.proper c.args.x c.args.node.inside
    c.args.node.outside c.producers-makers.result c.producers-makers.ensures c.minus-free.result
    c.minus.result c.minus-free.ensures c.minus.ensures c.rises-2.ensures.rising

pub returns-clause-apart : goal.returns-clause-apart
returns-clause-apart c =
    base_and_free_apart (shape c.args.self.now) c.is_proper.ensures.proper c.args.x
    c.args.node.inside c.args.node.outside c.producers-makers.result c.producers-makers.ensures
    c.minus-free.result c.minus.result c.minus-free.ensures c.minus.ensures c.meet-base.result
    c.meet-base.ensures
