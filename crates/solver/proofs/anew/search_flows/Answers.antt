use Rattle.flow_evaluator.specs.pgraph.View.{node_of}
use Rattle.flow_evaluator.specs.tree_rules.Past.{IsPastAt}
use Rattle.solver.proofs.AnewLemmas.{against_anew}
use Rattle.solver.proofs.anew.search_flows.Goals as goal

pub with_guessed-best-requires-clause-passes : goal.with_guessed-best-requires-clause-passes
with_guessed-best-requires-clause-passes g c =
    let h = rw c.in-Spent.is at c.search_few-first.ensures.found in
    h.0.partial.claimed

pub returns-in-Spent-clause-against : goal.returns-in-Spent-clause-against
returns-in-Spent-clause-against g c =
    let p = c.args.site.now in
    let h = rw c.in-Spent.is at c.search_few-first.ensures.found in
    let k = rw c.in-Spent.is at c.search_few-first.ensures.against in
    against_anew IsPastAt p (node_of c.args.start) c.args.effort.budget c.args.best c.in-Spent.best
    c.with_guessed-best.result c.search_with-in-Spent.result c.search_with-in-Spent.ensures.found
    c.requires.passes h.0.partial.claimed c.with_guessed-best.ensures.passes k
    c.with_guessed-best.ensures.fallen c.search_with-in-Spent.ensures.against
