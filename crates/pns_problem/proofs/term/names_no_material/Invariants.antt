use Rattle.std.proofs.Common.{◌≡◌, drop}
use Rattle.text_rules.specs.problem_rules.Validity.{names_no_material}
use Rattle.pns_problem.proofs.term.names_no_material.Given as goal

abbrev pub invariant-looking : goal.invariant-looking
invariant-looking l = names_no_material l.materials (drop l.term-index
    l.terms) ≡ names_no_material l.materials l.terms
