use Rattle.charges.specs.pgraph.Tables.{shape}
use Rattle.cert_check.proofs.SetLemmas.{below_is}
use Rattle.cert_check.proofs.sets.units_left.Goals as goal

pub returns : goal.returns
returns c =
    below_is c.minus.result c.below.result c.args.node.now.outside (shape c.args.graph.now).units
    c.unit_count.result c.minus.ensures c.below.ensures c.unit_count.ensures
