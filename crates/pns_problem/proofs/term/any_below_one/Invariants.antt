use Rattle.std.proofs.Common.{◌≡◌, drop}
use Rattle.text_rules.specs.problem_rules.Problem.{rates_of}
use Rattle.text_rules.specs.problem_rules.Validity.{any_below_one}
use Rattle.pns_problem.proofs.term.any_below_one.Given as goal

abbrev pub invariant-looking : goal.invariant-looking
invariant-looking l = any_below_one (rates_of (drop l.term-index l.terms)) ≡ any_below_one (rates_of
    l.terms)
