use Rattle.std.proofs.Common.{◌≡◌, drop}
use Rattle.pgraph.specs.problem_rules.Problem.{rate_in}
use Rattle.flow_program.proofs.feasibility.rate_among.Given as goal

abbrev pub invariant-looking : goal.invariant-looking
invariant-looking l = rate_in (drop l.term-index l.terms) l.j ≡ rate_in l.terms l.j
