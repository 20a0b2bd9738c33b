use Rattle.std.proofs.Common.{◌<◌, length}
use Rattle.tree_parts.specs.integer_laws.Range.{AllInRange}
use Rattle.headed_search.proofs.evidence.scaled_by.Given as goal

abbrev pub invariant-multipliers : goal.invariant-multipliers
invariant-multipliers l = record {
  some : 0 < length l.numbers.items;
  in_range : AllInRange l.numbers.items;
}
