use Rattle.pgraph.specs.Tables.{shape}
use Rattle.pgraph.proofs.laws.children_split_families.Goals as goal

pub returns-clause-apart : goal.returns-clause-apart
returns-clause-apart c =
    λ n x o t t' a b p q. c.children_split_families.ensures.apart (shape c.args.graph.now) n x o t
    t' a b p q
