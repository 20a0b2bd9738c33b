use Rattle.charges.specs.pgraph.Tables.{shape}
use Rattle.cert_check.proofs.SetLemmas.{free_among}
use Rattle.cert_check.proofs.sets.free_units.Goals as goal

pub returns : goal.returns
returns c =
    free_among (shape c.args.graph.now) c.args.node.now.inside c.args.node.now.outside
    c.units_left.result c.minus.result c.minus.ensures c.units_left.ensures
