use Rattle.std.proofs.Common.{◌≡◌, ◌*◌}
use Rattle.text_rules.specs.problem_rules.Draws.{state_after}
use Rattle.text_rules.specs.problem_rules.Generated.{units_of}
use Rattle.pns_problem.proofs.units.units_of.Given as goal

abbrev pub invariant-making : goal.invariant-making
invariant-making l = record {
  units : l.made.items ≡ units_of l.count l.fn.draws.state l.number;
  advanced : l.draws.state ≡ state_after (5 * l.number) l.fn.draws.state;
}
