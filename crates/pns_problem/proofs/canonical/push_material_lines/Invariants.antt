use Rattle.std.proofs.Common.{string_bytes}
use Rattle.pns_problem.specs.Printing.{material_line}
use Rattle.pns_problem.proofs.Printed.{AreLinesPrinted}
use Rattle.pns_problem.proofs.canonical.push_material_lines.Given as goal

abbrev pub invariant-printing : goal.invariant-printing
invariant-printing l = AreLinesPrinted material_line l.materials l.material-index (string_bytes
    l.fn.text) (string_bytes l.text)
