use Rattle.std.proofs.Common.{◌≡◌, drop}
use Rattle.text_rules.specs.problem_rules.Problem.{rates_of}
use Rattle.text_rules.specs.problem_rules.Validity.{any_out_of_range}
use Rattle.pns_problem.proofs.term.any_out_of_range.Given as goal

abbrev pub invariant-looking : goal.invariant-looking
invariant-looking l = any_out_of_range (rates_of
    (drop l.term-index l.terms)) ≡ any_out_of_range (rates_of l.terms)
