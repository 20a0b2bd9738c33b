use Rattle.std.proofs.Common.{◌≡◌, ◌++◌, map, drop}
use Rattle.report_tables.specs.Opened.{opened_node}
use Rattle.report_tables.proofs.opened.opened_nodes.Given as goal

-- the copies so far and those of the nodes that are left are all
abbrev pub invariant-copying : goal.invariant-copying
invariant-copying l = l.copies.items ++ map opened_node (drop l.node-index
    l.nodes) ≡ map opened_node l.nodes
