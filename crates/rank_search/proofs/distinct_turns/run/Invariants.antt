use Rattle.std.proofs.Common.{◌≡◌}
use Rattle.rank_search.specs.DistinctTurns.{IsSearching, left_over}
use Rattle.rank_search.proofs.distinct_turns.run.Given as goal

abbrev pub invariant-turns : goal.invariant-turns
invariant-turns g l = record {
  searching : IsSearching g.E.Evaluator.past l.site l.fn.growing.budget l.growing l.listing;
  own : g.E.Evaluator.values l.site l.workspace.evaluator;
  makers : l.workspace.makers.makers ≡ l.fn.workspace.makers.makers;
  count : l.listing.count ≡ l.fn.listing.count;
}

abbrev pub decreases-turns : goal.decreases-turns
decreases-turns g l = left_over l.growing
