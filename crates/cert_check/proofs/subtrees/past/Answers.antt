use Rattle.cert_check.proofs.EndLemmas.{over_step}
use Rattle.cert_check.proofs.subtrees.past.Goals as goal

pub over-preserved : goal.over-preserved
over-preserved c =
    over_step c.args.nodes.now c.args.ends.now c.args.count c.args.from c.over.left c.over.at
    c.requires.are c.over.invariant c.over-test.true c.if-at-nodes.true
