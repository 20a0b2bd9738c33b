use Rattle.std.proofs.Common.{◌++◌, reverse, length}
use Rattle.tree_parts.proofs.LaidNodes.{IsGiven}
use Rattle.tree_parts.proofs.splicing.give_back.Given as goal

abbrev pub invariant-giving : goal.invariant-giving
invariant-giving l = IsGiven (l.fn.nodes.items
    ++ reverse l.fn.back.items) l.nodes.items l.left.items

abbrev pub decreases-giving : goal.decreases-giving
decreases-giving l = length l.left.items
