use Rattle.std.proofs.Common.{length}
use Rattle.tree_parts.specs.Waiting.{splices_of}
use Rattle.tree_parts.proofs.LaidNodes.{IsSplicing}
use Rattle.tree_parts.proofs.splicing.splice.Given as goal

abbrev pub invariant-splicing : goal.invariant-splicing
invariant-splicing l = IsSplicing (splices_of
    l.fn.waiting.items) l.fn.tree.items l.nodes.items l.back.items (splices_of l.left.items)

abbrev pub decreases-splicing : goal.decreases-splicing
decreases-splicing l = length l.left.items
