use Rattle.std.proofs.Common.{◌++◌, reverse}
use Rattle.tree_parts.proofs.LaidNodes.{one_given}
use Rattle.tree_parts.proofs.splicing.give_back.Goals as goal

pub giving-preserved : goal.giving-preserved
giving-preserved c =
    one_given (c.args.nodes.now.items ++ reverse c.args.back.items) c.giving.nodes.items
    c.push.new.self.items c.giving.left.items c.pop.new.self.items c.in-Some.node
    c.in-Some.ensures.items c.in_ok-push.ensures.items c.giving.invariant
