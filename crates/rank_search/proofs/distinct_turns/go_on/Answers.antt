use Rattle.std.proofs.Common.{None}
use Rattle.rank_search.proofs.DistinctTurnLemmas.{growing_of}
use Rattle.rank_search.proofs.distinct_turns.go_on.Goals as goal

pub next_leaf-requires-clause-growing : goal.next_leaf-requires-clause-growing
next_leaf-requires-clause-growing g c =
    growing_of g.E.Evaluator.past c.args.site.now c.args.growing.now.budget c.args.growing.now
    c.args.listing.now c.requires.searching c.requires.goes_on

pub shut_by_last-requires-clause-growing : goal.shut_by_last-requires-clause-growing
shut_by_last-requires-clause-growing g c =
    c.next_leaf.ensures.same.growing None
    (growing_of g.E.Evaluator.past c.args.site.now c.args.growing.now.budget c.args.growing.now
    c.args.listing.now c.requires.searching c.requires.goes_on)

pub shut_by_last-requires-clause-asked : goal.shut_by_last-requires-clause-asked
shut_by_last-requires-clause-asked g c = c.requires.searching.of_tree.asked
