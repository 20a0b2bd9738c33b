use Rattle.std.proofs.Common.{◌≡◌, ℕ, true, Some}
use Rattle.node_evaluation.specs.link_lists.Lists.{has}
use Rattle.abb_search.proofs.watching.open_leaves.Given as goal

abbrev pub invariant-leaves : goal.invariant-leaves
invariant-leaves l = (leaf : ℕ) → l.next ≡ Some leaf → has l.growing.pool.leaves leaf ≡ true
