use Rattle.std.proofs.Common.{◌≡◌, ◌++◌, map}
use Rattle.std.specs.List.{range_with_len}
use Rattle.plan_laws.specs.plan_rules.Expanded.{running}
use Rattle.periods.proofs.units.push_period.Given as goal

abbrev pub invariant-running : goal.invariant-running
invariant-running l = l.units.items ≡ l.fn.units.items ++ map (running l.problem
    l.period) (range_with_len 0 l.unit)
