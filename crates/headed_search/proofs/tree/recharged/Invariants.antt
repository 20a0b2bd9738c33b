use Rattle.std.proofs.Common.{◌≡◌, ◌++◌, length, map}
use Rattle.std.specs.Vec.Iter.{into_iter_items, into_iter_len}
use Rattle.tree_parts.specs.tree_laws.Recharged.{recharged_node}
use Rattle.headed_search.proofs.tree.recharged.Given as goal

abbrev pub invariant-charging : goal.invariant-charging
invariant-charging l = record {
  same : l.yielded ++ into_iter_items l.node-iterator ≡ into_iter_items l.initial.node-iterator;
  charged : l.nodes.items ≡ map recharged_node l.yielded;
  counted : into_iter_len l.node-iterator ≡ length (into_iter_items l.node-iterator);
}
