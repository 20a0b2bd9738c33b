use Rattle.std.proofs.Common.{◌≡◌, ◌++◌, ◌+◌, length}
use Rattle.std.specs.Vec.Iter.{into_iter_items, into_iter_len}
use Rattle.rank_search.specs.Plants.{AreAdded}
use Rattle.rank_search.proofs.plants.Plants.add_all.Given as goal

abbrev pub invariant-networks : goal.invariant-networks
invariant-networks l = (l.yielded ++ into_iter_items l.network-iterator
    ≡ into_iter_items l.initial.network-iterator)
    × AreAdded l.fn.self l.self l.yielded
    × (into_iter_len l.network-iterator ≡ length (into_iter_items l.network-iterator))
    × (l.leaf ≡ l.fn.first + length l.yielded)
