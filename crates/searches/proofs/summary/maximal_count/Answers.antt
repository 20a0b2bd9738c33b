use Rattle.tree_text.specs.pgraph.Tables.{shape}
use Rattle.searches.proofs.Summaries.{counts, none_refuted}
use Rattle.searches.proofs.summary.maximal_count.Goals as goal

pub returns-in-Some : goal.returns-in-Some
returns-in-Some c = λ s is.
    counts c.args.problem.now (shape c.args.graph.now) c.empty.result c.in-Some.all c.count.result
    c.requires.graph c.empty.ensures
    (record { rising = c.rises.ensures.rising; below = c.rises.ensures.below })
    c.in-Some.ensures.union c.in-Some.ensures.structure c.count.ensures

pub returns-in-None : goal.returns-in-None
returns-in-None c =
    λ s is. absurd
    (none_refuted c.args.problem.now (shape c.args.graph.now) c.empty.result s c.requires.graph
    c.empty.ensures c.in-None.ensures.none is)
