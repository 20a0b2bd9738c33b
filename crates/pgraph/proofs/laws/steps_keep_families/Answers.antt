use Rattle.pgraph.specs.Tables.{shape}
use Rattle.pgraph.proofs.laws.steps_keep_families.Goals as goal

pub returns : goal.returns
returns c =
    λ n step possible o. c.steps_keep_families.ensures (shape c.args.graph.now) n step
    c.is_proper.ensures.proper possible o
