use Rattle.std.proofs.Common.{◌≡◌, ◌≤◌, ◌++◌, length, map, drop}
use Rattle.tree_text_rules.specs.pns_rules.Nodes.{child}
use Rattle.charges.specs.pgraph.Tables.{shape}
use Rattle.charges.specs.pgraph.View.{node_of}
use Rattle.cert_check.specs.Subtrees.{stack_of}
use Rattle.cert_check.proofs.children.push_children.Given as goal

abbrev pub invariant-put : goal.invariant-put
invariant-put l = record {
  within : l.left ≤ length l.options;
  so_far : stack_of l.stack.items
      ≡ map (child (shape l.graph) (node_of l.node) l.material) (drop l.left l.options)
      ++ stack_of l.fn.stack.items;
}

abbrev pub decreases-put : goal.decreases-put
decreases-put l = l.left
