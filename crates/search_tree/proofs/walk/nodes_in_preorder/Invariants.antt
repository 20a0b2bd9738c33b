use Rattle.std.proofs.Common.{length}
use Rattle.search_tree.specs.Shut.{shut_cells}
use Rattle.search_tree.specs.Runs.{to_come}
use Rattle.search_tree.proofs.WalkLemmas.{IsWalk, load}
use Rattle.search_tree.proofs.walk.nodes_in_preorder.Given as goal

abbrev pub invariant-walk : goal.invariant-walk
invariant-walk l = IsWalk (shut_cells l.proofs l.pool.payloads) l.wanted (to_come
    l.stack.items) l.order.items l.nodes.items l.place

abbrev pub decreases-walk : goal.decreases-walk
decreases-walk l = load (length (shut_cells l.proofs l.pool.payloads)) (to_come l.stack.items)
