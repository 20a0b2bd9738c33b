use Rattle.std.proofs.Common.{◌≡◌, drop}
use Rattle.text_lines.specs.problem_rules.Problem.{rate_in}
use Rattle.structure_commands.proofs.unit.rate_in.Given as goal

abbrev pub invariant-looking : goal.invariant-looking
invariant-looking l = rate_in (drop l.term-index l.terms) l.material ≡ rate_in l.terms l.material
