use Rattle.std.proofs.Common.{◌≡◌}
use Rattle.abb_search.specs.Growing.{IsSame}
use Rattle.abb_search.specs.Settling.{waiting}
use Rattle.abb_search.proofs.rounds.next_leaf.Given as goal

abbrev pub invariant-rounds : goal.invariant-rounds
invariant-rounds g l = record {
  same : IsSame g.E.Evaluator.past l.site l.fn.growing l.growing;
  own : g.E.Evaluator.values l.site l.workspace.evaluator;
  makers : l.workspace.makers ≡ l.fn.workspace.makers;
}

abbrev pub decreases-rounds : goal.decreases-rounds
decreases-rounds g l = waiting l.growing
