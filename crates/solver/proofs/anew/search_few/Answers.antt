use Rattle.flow_evaluator.specs.pgraph.View.{node_of}
use Rattle.flow_evaluator.specs.tree_rules.Past.{IsPastAt}
use Rattle.rank_search.proofs.abb_search.Cited.{passes_positive, best_passes, against_after}
use Rattle.rank_search.proofs.abb_search.Cited.{root_after}
use Rattle.rank_search.proofs.abb_search.Cited.{root_positive}
use Rattle.std.proofs.Common.{true, arith}
use Rattle.solver.proofs.anew.search_few.Goals as goal

pub run-requires-clause-going : goal.run-requires-clause-going
run-requires-clause-going g c =
    let given = best_passes c.args.site.now c.args.best c.requires.passes in
    root_after IsPastAt c.args.site.now c.args.start.now 300 c.args.best
    given c.in-Ok.root c.in-Ok.ensures.root (omega arith)

pub returns-in-Ok-clause-against : goal.returns-in-Ok-clause-against
returns-in-Ok-clause-against g c =
    let p = c.args.site.now in
    let best = c.args.best in
    let root = c.in-Ok.root in
    let looked = c.in-Ok.ensures.root in
    let positive =
    root_positive IsPastAt p c.args.start.now 300 best
    (best_passes p best c.requires.passes) root looked (omega arith) in
    against_after IsPastAt p (node_of root.start) root.budget best root.best
    c.run.result c.run.ensures.found (passes_positive true p best c.requires.passes) positive
    looked.fallen c.run.ensures.against
