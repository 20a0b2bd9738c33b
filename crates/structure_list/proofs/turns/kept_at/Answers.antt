use Rattle.pgraph.specs.Tables.{shape}
use Rattle.structure_list.proofs.TightLemmas.{kept_is_at}
use Rattle.structure_list.proofs.turns.kept_at.Goals as goal

pub returns : goal.returns
returns c =
    kept_is_at (shape c.args.graph.now) c.args.node c.minus.result c.below.result
    c.unit_count.result c.minus.ensures c.below.ensures c.unit_count.ensures
