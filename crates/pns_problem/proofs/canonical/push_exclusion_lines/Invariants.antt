use Rattle.std.proofs.Common.{length, string_bytes}
use Rattle.text_rules.specs.problem_rules.Problem.{unit_names}
use Rattle.pns_problem.specs.Printing.{exclusion_line, HasKnownMembers}
use Rattle.pns_problem.proofs.Printed.{AreFitLinesPrinted}
use Rattle.pns_problem.proofs.canonical.push_exclusion_lines.Given as goal

abbrev pub invariant-printing : goal.invariant-printing
invariant-printing l = AreFitLinesPrinted (HasKnownMembers (length l.units)) (exclusion_line
    (unit_names l.units)) l.exclusions l.exclusion-index (string_bytes l.fn.text)
    (string_bytes l.text)
