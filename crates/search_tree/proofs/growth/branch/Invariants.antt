use Rattle.std.proofs.Common.{length, slice_set, ◌++◌}
use Rattle.branch_tree.specs.View.{end_of}
use Rattle.search_tree.specs.Cells.{cell_at}
use Rattle.search_tree.specs.Growth.{as_parent, cells_in_turn, values_in_turn}
use Rattle.search_tree.proofs.GrowthLemmas.{IsGrowing}
use Rattle.search_tree.proofs.growth.branch.Given as goal

abbrev pub invariant-children : goal.invariant-children
invariant-children l =
    IsGrowing l.fn.pool
    (slice_set l.fn.pool.payloads l.leaf
    (as_parent (cell_at l.fn.pool.payloads l.leaf) l.first (end_of l.fn.end))
    ++ cells_in_turn l.fn.children.items)
    (l.fn.pool.values ++ values_in_turn l.fn.children.items) l.leaf l.pool l.children.items

abbrev pub decreases-children : goal.decreases-children
decreases-children l = length l.children.items
