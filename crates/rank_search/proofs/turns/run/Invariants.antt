use Rattle.std.proofs.Common.{◌≡◌, ◌-◌, length}
use Rattle.rank_search.specs.Turns.{IsRanking}
use Rattle.rank_search.proofs.turns.run.Given as goal

abbrev pub invariant-turns : goal.invariant-turns
invariant-turns g l = record {
  ranking : IsRanking g.E.Evaluator.past l.site l.fn.growing.budget l.growing l.found;
  own : g.E.Evaluator.values l.site l.workspace.evaluator;
  makers : l.workspace.makers.makers ≡ l.fn.workspace.makers.makers;
  count : l.found.count ≡ l.fn.found.count;
}

abbrev pub decreases-turns : goal.decreases-turns
decreases-turns g l = l.growing.budget - length l.growing.pool.payloads
