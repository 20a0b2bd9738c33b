use Rattle.pgraph.specs.number_sets.Sets.{has}
use Rattle.pgraph.specs.Tables.{shape}
use Rattle.pgraph.specs.View.{node_of}
use Rattle.neutral_extension.proofs.FindLemmas.{loose_is}
use Rattle.neutral_extension.proofs.LeafLemmas.{reaching_leads}
use Rattle.neutral_extension.proofs.units.loose_units.Goals as goal

pub returns-clause-loose : goal.returns-clause-loose
returns-clause-loose c =
    loose_is (shape c.args.graph.now) (node_of c.args.node.now) c.remaining_units-rest.result
    c.leading_of-found.result c.minus.result c.minus.ensures c.remaining_units-rest.ensures.is
    c.leading_of-found.ensures

pub returns-clause-leading : goal.returns-clause-leading
returns-clause-leading c =
    reaching_leads (shape c.args.graph.now) (has c.remaining_units-rest.result)
    (has c.leading_of-found.result) c.leading_of-found.ensures
