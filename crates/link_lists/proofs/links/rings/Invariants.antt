use Rattle.std.proofs.Common.{◌≡◌, ◌<◌, ℕ, length}
use Rattle.link_lists.specs.Links.{next_of, prev_of}
use Rattle.link_lists.proofs.links.rings.Given as goal

abbrev pub invariant-loop-l : goal.invariant-loop-l
invariant-loop-l l = record {
  length : length l.links.items ≡ l.count;
  next : (i : ℕ) → i < l.l → next_of l.links.items i ≡ i;
  prev : (i : ℕ) → i < l.l → prev_of l.links.items i ≡ i;
}
