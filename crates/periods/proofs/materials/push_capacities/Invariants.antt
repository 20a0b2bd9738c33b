use Rattle.std.proofs.Common.{◌≡◌, ◌++◌, map}
use Rattle.std.specs.List.{range_with_len}
use Rattle.plan_laws.specs.plan_rules.Expanded.{capacity}
use Rattle.periods.proofs.materials.push_capacities.Given as goal

abbrev pub invariant-building : goal.invariant-building
invariant-building l = l.materials.items ≡ l.fn.materials.items ++ map (capacity
    l.period) (range_with_len 0 l.unit)
