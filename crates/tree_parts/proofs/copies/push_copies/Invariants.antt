use Rattle.std.proofs.Common.{◌≡◌, ◌++◌, take}
use Rattle.tree_parts.proofs.copies.push_copies.Given as goal

-- the nodes before this one are copied
abbrev pub invariant-copying : goal.invariant-copying
invariant-copying l = l.into.items ≡ l.fn.into.items ++ take l.node-index l.nodes
