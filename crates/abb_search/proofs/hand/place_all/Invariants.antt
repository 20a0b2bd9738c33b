use Rattle.std.proofs.Common.{◌≤◌, ◌+◌, length}
use Rattle.std.specs.Prelude.{vec_capacity}
use Rattle.slab.specs.Slab.{slab_len}
use Rattle.abb_search.proofs.HandLemmas.{ArePlacing}
use Rattle.abb_search.proofs.hand.place_all.Given as goal

abbrev pub invariant-children : goal.invariant-children
invariant-children l =
    ArePlacing l.fn.children.items l.fn.ready.items l.fn.hand l.children.items l.ready.items l.hand
    l.placed.items × (slab_len l.hand + length l.children.items ≤ l.hand.capacity)
    × (length l.placed.items + length l.children.items ≤ vec_capacity l.placed)

abbrev pub decreases-children : goal.decreases-children
decreases-children l = length l.children.items
