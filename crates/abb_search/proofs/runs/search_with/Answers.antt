use Rattle.node_evaluation.specs.pgraph.View.{node_of}
use Rattle.abb_search.proofs.StepLemmas.{passes_positive, best_passes, against_after}
use Rattle.abb_search.proofs.RootLemmas.{root_after, root_positive}
use Rattle.std.proofs.Common.{true}
use Rattle.abb_search.proofs.runs.search_with.Goals as goal

pub run-requires-clause-going : goal.run-requires-clause-going
run-requires-clause-going g c =
    let given = best_passes c.args.site.now c.args.best c.requires.passes in
    root_after g.E.Evaluator.past c.args.site.now c.args.start c.args.effort.budget c.args.best
    given c.in-Ok.root c.in-Ok.ensures.root c.requires.some

pub returns-in-Ok-clause-against : goal.returns-in-Ok-clause-against
returns-in-Ok-clause-against g c =
    let Past = g.E.Evaluator.past in
    let p = c.args.site.now in
    let best = c.args.best in
    let root = c.in-Ok.root in
    let looked = c.in-Ok.ensures.root in
    let positive =
    root_positive Past p c.args.start c.args.effort.budget best
    (best_passes p best c.requires.passes) root looked c.requires.some in
    against_after Past p (node_of root.start) root.budget best root.best c.run.result
    c.run.ensures.found (passes_positive true p best c.requires.passes) positive looked.fallen
    c.run.ensures.against
