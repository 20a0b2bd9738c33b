use Rattle.pgraph.specs.Tables.{shape}
use Rattle.pgraph.proofs.laws.ends_are_empty.Goals as goal

pub returns-clause-clash : goal.returns-clause-clash
returns-clause-clash c =
    λ n k o h f. c.ends_are_empty.ensures.clash (shape c.args.graph.now) n k o h f

pub returns-clause-dead : goal.returns-clause-dead
returns-clause-dead c =
    λ n x o h f. c.ends_are_empty.ensures.dead (shape c.args.graph.now) n x o
    c.is_proper.ensures.proper h f
