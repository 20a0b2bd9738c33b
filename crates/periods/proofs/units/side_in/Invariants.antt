use Rattle.std.proofs.Common.{◌≡◌, take}
use Rattle.plan_laws.specs.plan_rules.Expanded.{side_in}
use Rattle.periods.proofs.units.side_in.Given as goal

abbrev pub invariant-moving : goal.invariant-moving
invariant-moving l = l.moved.items ≡ side_in l.problem l.period (take l.term-index l.terms)
