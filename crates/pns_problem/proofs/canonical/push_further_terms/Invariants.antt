use Rattle.pns_problem.proofs.Printed.{AreTermsPrinted}
use Rattle.std.proofs.Common.{length, string_bytes}
use Rattle.text_rules.specs.problem_rules.Problem.{material_names}
use Rattle.pns_problem.proofs.canonical.push_further_terms.Given as goal

abbrev pub invariant-printing : goal.invariant-printing
invariant-printing l = AreTermsPrinted (length l.materials) (material_names
    l.materials) l.terms l.term-index (string_bytes l.fn.text) (string_bytes l.text)
