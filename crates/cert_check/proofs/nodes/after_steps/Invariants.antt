use Rattle.std.proofs.Common.{map}
use Rattle.charges.specs.pgraph.Tables.{shape}
use Rattle.charges.specs.pgraph.View.{node_of, step_of}
use Rattle.cert_check.proofs.NodeLemmas.{IsOnWay}
use Rattle.cert_check.proofs.nodes.after_steps.Given as goal

abbrev pub invariant-steps : goal.invariant-steps
invariant-steps l = IsOnWay (shape l.graph) (node_of l.node) (node_of l.at) (map step_of
    l.steps) l.i
