use Rattle.std.proofs.Common.{◌≡◌, ◌≤◌, ◌++◌, length, drop}
use Rattle.tree_text_rules.specs.tree_rules.Tree as trees
use Rattle.cert_check.proofs.subtrees.roots.Given as goal

abbrev pub invariant-over : goal.invariant-over
invariant-over l = record {
  within : l.at ≤ length l.nodes;
  so_far : l.found.items ++ trees.roots l.left (drop l.at l.nodes)
      ≡ trees.roots l.count (drop l.from l.nodes);
}

abbrev pub decreases-over : goal.decreases-over
decreases-over l = l.left
