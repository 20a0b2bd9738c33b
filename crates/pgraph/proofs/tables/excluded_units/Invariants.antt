use Rattle.std.proofs.Common.{◌≡◌, ◌<◌, ℕ, [], length, get_or}
use Rattle.flow_rules.specs.number_sets.Sets.{has}
use Rattle.pgraph.specs.Building.{units_excluded}
use Rattle.pgraph.proofs.tables.excluded_units.Given as goal

abbrev pub invariant-loop-exclusion : goal.invariant-loop-exclusion
invariant-loop-exclusion l = record {
  count : length l.sets.items ≡ l.exclusion-index;
  units : (k u : ℕ) → k < l.exclusion-index
      → has (get_or l.sets.items k []) u ≡ has (units_excluded l.exclusions k) u;
}
