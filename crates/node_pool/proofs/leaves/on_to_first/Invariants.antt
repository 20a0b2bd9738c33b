use Rattle.std.proofs.Common.{◌≡◌, ◌-◌, true, false, length}
use Rattle.link_lists.specs.Lists.{row, has, place_in}
use Rattle.node_pool.specs.Order.{is_at_least}
use Rattle.node_pool.proofs.leaves.on_to_first.Given as goal

abbrev pub invariant-loop-after : goal.invariant-loop-after
invariant-loop-after l = record {
  listed : has (row l.lists.lists 0) l.leaf ≡ true;
  lower : is_at_least l.values.items l.value l.leaf ≡ false;
}

abbrev pub decreases-loop-after : goal.decreases-loop-after
decreases-loop-after l = length (row l.lists.lists 0) - place_in l.leaf (row l.lists.lists 0)
