use Rattle.dual_simplex.specs.pgraph.View.{node_of}
use Rattle.dual_simplex.specs.pgraph.CoversView.{covers_of}
use Rattle.flow_evaluator.specs.Charging.{AreFit}
use Rattle.flow_evaluator.proofs.charging.fit_covers.Given as goal

abbrev pub invariant-covers : goal.invariant-covers
invariant-covers l = AreFit l.site (node_of l.node) (covers_of l.fit.items)
