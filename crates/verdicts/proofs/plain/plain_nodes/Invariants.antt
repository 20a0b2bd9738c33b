use Rattle.std.proofs.Common.{◌≡◌, ◌++◌, drop, map}
use Rattle.report_rules.specs.rank_rules.Marked.{marked}
use Rattle.rank_check.specs.View.{mark_of}
use Rattle.report_rules.specs.RankLow.{plain_tree}
use Rattle.verdicts.proofs.plain.plain_nodes.Given as goal

-- the nodes so far and those that are left give the whole tree
abbrev pub invariant-nodes : goal.invariant-nodes
invariant-nodes l =
    l.plain.items ++ plain_tree (marked (map mark_of l.rest) (drop l.node-index l.nodes))
    ≡ plain_tree (marked (map mark_of l.marks) l.nodes)
