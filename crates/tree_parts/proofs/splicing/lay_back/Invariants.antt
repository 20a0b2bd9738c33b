use Rattle.std.proofs.Common.{◌++◌, reverse, length}
use Rattle.tree_parts.proofs.LaidNodes.{IsLaid}
use Rattle.tree_parts.proofs.splicing.lay_back.Given as goal

abbrev pub invariant-laying : goal.invariant-laying
invariant-laying l = IsLaid (l.fn.nodes.items
    ++ reverse l.fn.back.items) l.keep l.nodes.items l.back.items

abbrev pub decreases-laying : goal.decreases-laying
decreases-laying l = length l.nodes.items
