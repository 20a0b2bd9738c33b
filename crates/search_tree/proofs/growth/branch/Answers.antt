use Rattle.std.proofs.Common.{List, slice_set, ◌++◌, subst}
use Rattle.node_pool.specs.exact_numbers.declared.number.Mixed.{Mixed}
use Rattle.branch_tree.specs.View.{end_of}
use Rattle.search_tree.specs.declared.growth.Fresh.{Fresh}
use Rattle.search_tree.specs.Cells.{Cell, cell_at}
use Rattle.search_tree.specs.Growth.{as_parent, cells_in_turn, values_in_turn}
use Rattle.search_tree.proofs.GrowthLemmas.{IsGrowing, grows_first, grows}
use Rattle.search_tree.proofs.growth.branch.Goals as goal

pub children-init : goal.children-init
children-init c =
    let p = c.args.pool.now in
    let leaf = c.args.leaf in
    grows_first p c.mark_branch.new.pool leaf
    (as_parent (cell_at p.payloads leaf) c.args.first (end_of c.args.end))
    c.args.children.now.items
    c.mark_branch.ensures.cells c.mark_branch.ensures.values c.mark_branch.ensures.parent
    c.mark_branch.ensures.others c.mark_branch.ensures.room c.requires.room

pub children-preserved : goal.children-preserved
children-preserved c =
    let p = c.args.pool.now in
    let leaf = c.args.leaf in
    let children = c.args.children.now.items in
    let cells : List Cell =
    slice_set p.payloads leaf
    (as_parent (cell_at p.payloads leaf) c.args.first (end_of c.args.end))
    ++ cells_in_turn children in
    let values : List Mixed = p.values ++ values_in_turn children in
    grows p cells values leaf c.children.pool c.add_child.new.pool c.pop.new.self.items
    c.in-Some.fresh
    (subst (λ (xs : List Fresh). IsGrowing p cells values leaf c.children.pool xs)
    c.in-Some.ensures.items c.children.invariant)
    c.add_child.ensures.cells c.add_child.ensures.values c.add_child.ensures.parent
    c.add_child.ensures.open c.add_child.ensures.others c.add_child.ensures.room
