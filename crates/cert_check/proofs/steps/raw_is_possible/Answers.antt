use Rattle.charges.specs.pgraph.Tables.{shape}
use Rattle.charges.specs.pgraph.View.{node_of}
use Rattle.cert_check.proofs.StepLemmas.{raw_is}
use Rattle.cert_check.proofs.steps.raw_is_possible.Goals as goal

pub returns-then-is_free : goal.returns-then-is_free
returns-then-is_free c =
    let k =
    raw_is (shape c.args.graph.now) (node_of c.args.node.now) c.is_proper.ensures.proper
    c.args.u c.outputs.result c.raws.result (c.is_free.ensures.0 c.if-is_free.true)
    c.outputs.ensures c.raws.ensures in
    ((λ h. k.0 (c.have_common.ensures.0 h)), (λ p. c.have_common.ensures.1 (k.1 p)))
