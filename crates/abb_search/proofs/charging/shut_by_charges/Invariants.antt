use Rattle.std.proofs.Common.{◌≡◌}
use Rattle.abb_search.specs.Charging.{KeepsGoing}
use Rattle.abb_search.proofs.charging.shut_by_charges.Given as goal

abbrev pub invariant-leaves : goal.invariant-leaves
invariant-leaves g l = record {
  keeps : KeepsGoing g.E.Evaluator.past l.site l.fn.growing l.growing;
  own : g.E.Evaluator.values l.site l.workspace.evaluator;
  makers : l.workspace.makers ≡ l.fn.workspace.makers;
}
