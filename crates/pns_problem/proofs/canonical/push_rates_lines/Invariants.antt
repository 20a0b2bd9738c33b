use Rattle.std.proofs.Common.{length, string_bytes}
use Rattle.text_rules.specs.problem_rules.Problem.{material_names}
use Rattle.pns_problem.specs.Printing.{rates_line, IsPrintable}
use Rattle.pns_problem.proofs.Printed.{AreFitLinesPrinted}
use Rattle.pns_problem.proofs.canonical.push_rates_lines.Given as goal

abbrev pub invariant-printing : goal.invariant-printing
invariant-printing l = AreFitLinesPrinted (IsPrintable (length l.materials)) (rates_line
    (material_names l.materials)) l.units l.unit-index (string_bytes l.fn.text)
    (string_bytes l.text)
