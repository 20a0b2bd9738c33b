use Rattle.std.proofs.Common.{◌<◌, ◌≡◌}
use Rattle.abb_search.specs.Growing.{IsSame}
use Rattle.abb_search.specs.Settling.{waiting}
use Rattle.abb_search.proofs.settling.settle_from.Given as goal

abbrev pub invariant-leaves : goal.invariant-leaves
invariant-leaves g l = record {
  same : IsSame g.E.Evaluator.past l.site l.fn.growing l.growing;
  fewer : waiting l.growing < waiting l.fn.growing;
  own : g.E.Evaluator.values l.site l.workspace.evaluator;
  makers : l.workspace.makers ≡ l.fn.workspace.makers;
}
