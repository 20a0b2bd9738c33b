use Rattle.std.proofs.Common.{string_bytes}
use Rattle.pns_problem.specs.Printing.{unit_line}
use Rattle.pns_problem.proofs.Printed.{AreLinesPrinted}
use Rattle.pns_problem.proofs.canonical.push_unit_lines.Given as goal

abbrev pub invariant-printing : goal.invariant-printing
invariant-printing l = AreLinesPrinted unit_line l.units l.unit-index (string_bytes
    l.fn.text) (string_bytes l.text)
