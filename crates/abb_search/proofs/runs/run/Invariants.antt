use Rattle.std.proofs.Common.{◌≡◌, ◌-◌, length}
use Rattle.node_evaluation.specs.tree_rules.Costs.{HasFallen}
use Rattle.node_evaluation.specs.Looks.{cost_of}
use Rattle.abb_search.specs.Growing.{IsGoing}
use Rattle.abb_search.proofs.runs.run.Given as goal

abbrev pub invariant-turns : goal.invariant-turns
invariant-turns g l = record {
  own : g.E.Evaluator.values l.site l.workspace.evaluator;
  makers : l.workspace.makers.makers ≡ l.fn.workspace.makers.makers;
  going : IsGoing g.E.Evaluator.past l.site l.growing;
  start : l.growing.start ≡ l.fn.root.start;
  budget : l.growing.budget ≡ l.fn.root.budget;
  fallen : HasFallen (cost_of l.fn.root.best) (cost_of l.growing.best);
}

abbrev pub decreases-turns : goal.decreases-turns
decreases-turns g l = l.growing.budget - length l.growing.pool.payloads
