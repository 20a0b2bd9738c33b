use Rattle.std.proofs.Common.{◌++◌, ◌<◌, length, reverse, arith}
use Rattle.tree_parts.proofs.LaidNodes.{one_laid}
use Rattle.tree_parts.proofs.splicing.lay_back.Goals as goal

pub laying-preserved : goal.laying-preserved
laying-preserved c =
    let a = c.laying-test.true in
    let b = c.len.ensures in
    let more : c.args.keep < length c.laying.nodes.items = omega (arith, a, b) in
    one_laid (c.args.nodes.now.items ++ reverse c.args.back.now.items) c.args.keep
    c.laying.nodes.items c.pop.new.self.items c.laying.back.items c.push.new.self.items
    c.in-Some.node
    c.in-Some.ensures.items more c.in_ok-push.ensures.items c.laying.invariant
