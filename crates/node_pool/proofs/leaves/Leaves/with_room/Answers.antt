use Rattle.std.proofs.Common.{length, sym, ap, subst}
use Rattle.link_lists.specs.Lists.{Rows, row}
use Rattle.node_pool.specs.OneList.{AreMarked}
use Rattle.node_pool.proofs.Marks.{none_marked}
use Rattle.node_pool.proofs.leaves.Leaves.with_room.Goals as goal

pub invariant_of-result : goal.invariant_of-result
invariant_of-result c =
    let leaves = row c.in_ok-open.field-0.lists 0 in
    record {
      one = ap (λ (r : Rows). length r.lists) c.in_ok-open.ensures;
      linked = ap (λ (r : Rows). r.stack) c.in_ok-open.ensures;
      cells = ap (λ (r : Rows). r.cells) c.in_ok-open.ensures;
      marked =
          subst (λ marks. AreMarked marks leaves)
          (sym (c.in_ok-vec.ensures.items_if_clones_equal (λ y e. e)))
          (none_marked c.args.room leaves);
    }
