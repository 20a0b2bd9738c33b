use Rattle.std.proofs.Common.{◌≡◌, ◌≤◌, ◌+◌, ◌-◌, length, drop}
use Rattle.std.specs.List.{prefix_len}
use Rattle.pgraph.specs.number_sets.Sets.{has}
use Rattle.neutral_extension.proofs.makers.Makers.front_within.Given as goal

abbrev pub invariant-front : goal.invariant-front
invariant-front l = record {
  most : l.front ≤ length l.self.taken;
  passed : prefix_len (has l.set) l.self.taken ≡ l.front
      + prefix_len (has l.set) (drop l.front l.self.taken);
}

abbrev pub decreases-front : goal.decreases-front
decreases-front l = length l.self.taken - l.front
