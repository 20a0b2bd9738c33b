use Rattle.std.proofs.Common.{ℕ, map, sym, subst, add-one}
use Rattle.std.proofs.lemmas.Bool.{both_ways}
use Rattle.charges.specs.pgraph.Tables.{shape}
use Rattle.charges.specs.pgraph.View.{node_of, step_of}
use Rattle.cert_check.proofs.NodeLemmas.{IsOnWay, step_ahead, way_on, way_off}
use Rattle.cert_check.proofs.nodes.after_steps.Goals as goal

pub returns-then-not-is_possible-clause-impossible :
    goal.returns-then-not-is_possible-clause-impossible
returns-then-not-is_possible-clause-impossible c =
    way_off (shape c.args.graph.now) (node_of c.args.node.now) (map step_of c.args.steps.now)
    (node_of c.steps.at) (step_of c.index-steps-i.result) c.steps.i c.steps.invariant
    (step_ahead step_of c.args.steps.now c.steps.i c.index-steps-i.result c.steps-test.true
    c.index-steps-i.is)
    (λ p. both_ways c.is_possible.result c.if-not-is_possible.true (c.is_possible.ensures.1 p))

pub steps-preserved : goal.steps-preserved
steps-preserved c =
    subst
    (λ (k : ℕ). IsOnWay (shape c.args.graph.now) (node_of c.args.node.now)
    (node_of c.after-at.result) (map step_of c.args.steps.now) k) (sym (add-one c.steps.i))
    (way_on (shape c.args.graph.now) (node_of c.args.node.now) (map step_of c.args.steps.now)
    (node_of c.steps.at) (step_of c.index-steps-i.result) c.steps.i c.steps.invariant
    (step_ahead step_of c.args.steps.now c.steps.i c.index-steps-i.result c.steps-test.true
    c.index-steps-i.is)
    (node_of c.after-at.result) (c.is_possible.ensures.0 c.if-not-is_possible.false)
    c.after-at.ensures)
