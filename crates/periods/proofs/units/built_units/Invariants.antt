use Rattle.std.proofs.Common.{◌≡◌, map}
use Rattle.std.specs.List.{range_with_len}
use Rattle.plan_laws.specs.plan_rules.Expanded.{built}
use Rattle.periods.proofs.units.built_units.Given as goal

abbrev pub invariant-building : goal.invariant-building
invariant-building l = l.units.items ≡ map (built l.problem l.periods) (range_with_len 0 l.unit)
