use Rattle.std.proofs.Common.{◌≡◌, ◌++◌, flat_map}
use Rattle.std.specs.List.{range_with_len}
use Rattle.plan_laws.specs.plan_rules.Expanded.{built_units, period_units}
use Rattle.periods.proofs.units.units_of.Given as goal

abbrev pub invariant-copying : goal.invariant-copying
invariant-copying l = l.units.items ≡ built_units l.problem l.periods ++ flat_map (period_units
    l.problem) (range_with_len 0 l.period)
