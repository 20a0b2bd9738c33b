use Rattle.std.proofs.Common.{◌≡◌, map}
use Rattle.std.specs.List.{range_with_len}
use Rattle.plan_laws.specs.plan_rules.Expanded.{site}
use Rattle.periods.proofs.materials.sites.Given as goal

abbrev pub invariant-building : goal.invariant-building
invariant-building l = l.materials.items ≡ map site (range_with_len 0 l.unit)
